use Rattle.std.proofs.Common.{◌<◌, ◌≤◌, arith}
use Rattle.object_store.specs.Meaning.{state_map}
use Rattle.run_text.specs.Objects.{parts_in, part_text}
use Rattle.run_text.proofs.Texts.{none_yet, one_more, one_stops, all_done}
use Rattle.run_text.proofs.parts.put_parts.Goals as goal

pub each-init : goal.each-init
each-init g c = record { written = none_yet _ _ _; fetches = omega arith }

pub each-preserved : goal.each-preserved
each-preserved g c = record { written = one_more _ _ _ _ _ _ _ _ _ c.each.invariant.written c.in_ok-put_part.ensures.wrote; fetches = omega (arith, c.in_ok-put_part.ensures.counted) }

pub returns-in_err-put_part-clause-wrote : goal.returns-in_err-put_part-clause-wrote
returns-in_err-put_part-clause-wrote g c =
    let inside : c.each.i < parts_in c.args.part = omega arith in
    one_stops (part_text (state_map c.args.objects.now) c.args.part c.args.n) _ _ _ (parts_in c.args.part) _ _ _ _ _ _ inside c.from_residual.ensures.0 c.each.invariant.written c.in_err-put_part.ensures.wrote

pub returns-clause-wrote : goal.returns-clause-wrote
returns-clause-wrote g c =
    let past : parts_in c.args.part ≤ c.each.i = omega arith in
    let within : c.each.i ≤ parts_in c.args.part = omega arith in
    all_done (part_text (state_map c.args.objects.now) c.args.part c.args.n) _ _ (parts_in c.args.part) _ _ _ _ past within c.each.invariant.written
