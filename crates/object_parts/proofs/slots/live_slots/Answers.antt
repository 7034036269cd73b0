use Rattle.std.proofs.Common.{◌≡◌, ◌<◌, ℕ, length, map, get_or, refl, sym, ap, subst, ◌∙◌, arith, length-set}
use Rattle.std.proofs.lemmas.List.{length-map, get_or-map}
use Rattle.gpt_objects.proofs.Copied.{copied_more}
use Rattle.gpt_objects.specs.Gpt.{empty_gpt}
use Rattle.std.proofs.lemmas.List.Elements.{All-set, All-replicate}
use Rattle.cap_format.specs.Capability.{null, IsCapability}
use Rattle.cap_format.proofs.Ranges.{IsCapability-null}
use Rattle.object_store.specs.Store.{gpt_at}
use Rattle.object_store.specs.Meaning.{live}
use Rattle.object_parts.proofs.slots.live_slots.Goals as goal

pub loop-i-preserved : goal.loop-i-preserved
loop-i-preserved g c =
    let l = c.loop-i in
    let o = c.args.objects.now.items in
    let slots = (gpt_at o c.args.gpt).slots in
    let more = c.loop-i-test.true in
    let here = l.invariant.sixteen.sixteen in
    let Within : ℕ → Type 0 = λ n. c.args.gpt < n in
    let there : length slots ≡ 16 = (c.in_ranges.ensures.ranged.gpts c.args.gpt empty_gpt (subst Within (sym c.in_ranges.ensures.ranged.each) c.requires)).sixteen in
    let within : l.i < length slots = omega (arith, more, there) in
    let value : c.live-cap.result ≡ get_or (map (live o) slots) l.i (live o null) = c.live-cap.ensures.value ∙ ap (live o) c.gpt_slot.ensures.value ∙ sym (get_or-map (live o) slots l.i null (live o null) within) in
    record {
      copied = rw value (copied_more l.slots (map (live o) slots) l.i (live o null) (omega (arith, more, here)) (rw (length-map slots (live o)) within) l.invariant.copied);
      sixteen = record {
        sixteen = length-set l.slots l.i c.live-cap.result ∙ l.invariant.sixteen.sixteen;
        ranges = All-set IsCapability l.slots l.i c.live-cap.result c.kind-kind.ensures.range l.invariant.sixteen.ranges;
      };
      counted = let read = c.gpt_slot.ensures.counted in let before = l.invariant.counted in omega (arith, read, before);
    }

pub loop-i-init : goal.loop-i-init
loop-i-init g c = record {
  copied = refl;
  sixteen = record { sixteen = refl; ranges = All-replicate IsCapability 16 c.null-slots.result (rw c.null-slots.ensures IsCapability-null) };
  counted = omega arith;
}
