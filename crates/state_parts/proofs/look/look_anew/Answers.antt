use Rattle.std.proofs.Common.{ℕ, ◌+◌, map, sym, subst, List, arith}
use Rattle.cap_format.specs.declared.kind.CapKind.TheVariants.{Null}
use Rattle.machine_state.proofs.Taken.{name_by, name_there, slots_next}
use Rattle.object_parts.specs.Live.{live_store}
use Rattle.object_parts.specs.Objects.{object_in}
use Rattle.state_parts.proofs.Looked.{AreFound, found_more}
use Rattle.state_parts.proofs.look.look_anew.Goals as goal

pub loop-i-preserved : goal.loop-i-preserved
loop-i-preserved g c =
    let l = c.loop-i in
    let s = live_store c.args.objects.now in
    let T = map object_in c.new_look.new.table in
    let Found : List ℕ → Type 0 = λ xs. AreFound (map object_in c.args.table.now) T xs c.args.names.now s (l.i + 1) in
    let read = c.new_look.ensures.counted in
    let slots = slots_next c.args.names.now l.i (name_by Null 0) c.loop-i-test.true in
    let least = l.invariant.least in
    let before = l.invariant.counted in
    record {
      found = subst Found (sym c.in_ok-push.ensures.items)
          (found_more (map object_in c.args.table.now) (map object_in l.table) T l.found.items c.args.names.now s l.i c.in_ok-number.number c.loop-i-test.true l.invariant.found c.new_look.ensures.grows c.in_ok-number.ensures.reads);
      least = omega (arith, read, least);
      counted = omega (arith, read, slots, before);
    }

pub new_look-requires : goal.new_look-requires
new_look-requires g c = name_there c.args.objects.now c.args.names.now c.loop-i.i (name_by Null 0) c.loop-i-test.true c.requires.there

pub returns-in_err-number-clause-most : goal.returns-in_err-number-clause-most
returns-in_err-number-clause-most g c =
    let read = c.new_look.ensures.counted in
    let slots = slots_next c.args.names.now c.loop-i.i (name_by Null 0) c.loop-i-test.true in
    let before = c.loop-i.invariant.counted in
    omega (arith, read, slots, before)

pub returns-in_err-push-clause-most : goal.returns-in_err-push-clause-most
returns-in_err-push-clause-most g c =
    let read = c.new_look.ensures.counted in
    let slots = slots_next c.args.names.now c.loop-i.i (name_by Null 0) c.loop-i-test.true in
    let before = c.loop-i.invariant.counted in
    omega (arith, read, slots, before)

pub returns-clause-most : goal.returns-clause-most
returns-clause-most g c = let before = c.loop-i.invariant.counted in omega (arith, before)
