use Rattle.std.proofs.Common.{◌≡◌, ◌<◌, ◌+◌, ℕ, List, map, drop, get_or, sym, ap, ◌∙◌, subst, arith}
use Rattle.cap_format.specs.declared.kind.CapKind.TheVariants.{Null}
use Rattle.object_store.specs.Store.{size_of}
use Rattle.object_store.specs.Saved.{restored, AreThere}
use Rattle.machine_state.specs.declared.places.Place.{Place}
use Rattle.machine_state.specs.Outcome.{kept_after}
use Rattle.machine_state.specs.Past.{PastValue, name_at, saved_at, slots_back, touches_back}
use Rattle.machine_state.proofs.Saved.{place_of, there_at, restored_next, restored_end, slots_next, slots_end, kept_next, kept_end}
use Rattle.machine_state.proofs.restoring.put_back.Goals as goal

pub put_one-requires-clause-there : goal.put_one-requires-clause-there
put_one-requires-clause-there g c =
    let l = c.each in
    let places = c.as_slice-places.result.now in
    let none = place_of Null 0 0 in
    let same = c.as_slice-places.ensures.value ∙ ap (λ (v : PastValue). v.places) c.past.view_is in
    let There : List Place → Type 0 = λ ps. AreThere c.args.objects.now (map name_at ps) in
    let there = there_at c.args.objects.now places l.i none c.each-test.true (subst There (sym same) c.requires.there) in
    let Within : ℕ → Type 0 = λ n. (get_or places l.i none).number < n in
    subst Within (sym (l.invariant.sizes (get_or places l.i none).kind)) there

pub each-preserved : goal.each-preserved
each-preserved g c =
    let l = c.each in
    let places = c.as_slice-places.result.now in
    let t = g.T.Translator in
    let next = restored_next c.args.past.now.copies places l.i (place_of Null 0 0) l.objects c.each-test.true in
    record {
      objects = rw c.put_one.ensures.objects (sym next ∙ l.invariant.objects);
      sizes = λ k. c.put_one.ensures.sizes k ∙ l.invariant.sizes k;
      coherent = c.put_one.ensures.coherent;
      harts = c.put_one.ensures.harts ∙ l.invariant.harts;
      counted = let copied = c.put_one.ensures.counted in let slots = slots_next places l.i (place_of Null 0 0) c.each-test.true in let before = l.invariant.counted in omega (arith, copied, slots, before);
      kept =
          ap (λ k. kept_after t.cost t.after t.without k (touches_back (drop (l.i + 1) places))) c.put_one.ensures.kept
          ∙ (sym (kept_next t.cost t.after t.without (t.kept l.translator) places l.i (place_of Null 0 0) c.each-test.true) ∙ l.invariant.kept);
    }

pub returns-clause-objects : goal.returns-clause-objects
returns-clause-objects g c =
    let l = c.each in
    let places = c.as_slice-places.result.now in
    let same = c.as_slice-places.ensures.value ∙ ap (λ (v : PastValue). v.places) c.past.view_is in
    sym (restored_end c.args.past.now.copies places l.i l.objects c.each-test.false) ∙ l.invariant.objects ∙ ap (λ (ps : List Place). restored (map (saved_at c.args.past.now.copies) ps) c.args.objects.now) same

pub returns-clause-counted : goal.returns-clause-counted
returns-clause-counted g c =
    let l = c.each in
    let places = c.as_slice-places.result.now in
    let same = c.as_slice-places.ensures.value ∙ ap (λ (v : PastValue). v.places) c.past.view_is in
    let none = slots_end places l.i c.each-test.false in
    let before = l.invariant.counted in
    let all = ap slots_back same in
    omega (arith, none, before, all)

pub returns-clause-kept : goal.returns-clause-kept
returns-clause-kept g c =
    let l = c.each in
    let t = g.T.Translator in
    let places = c.as_slice-places.result.now in
    let same = c.as_slice-places.ensures.value ∙ ap (λ (v : PastValue). v.places) c.past.view_is in
    sym (kept_end t.cost t.after t.without (t.kept l.translator) places l.i c.each-test.false)
    ∙ (l.invariant.kept ∙ ap (λ (ps : List Place). kept_after t.cost t.after t.without (t.kept c.args.translator.now) (touches_back ps)) same)
