use Rattle.std.proofs.Common.{◌≡◌, ◌<◌, ℕ, List, length, get_or, sym, ap, ◌∙◌, subst, arith}
use Rattle.cap_format.specs.Capability.{Capability, null}
use Rattle.gpt_objects.specs.Gpt.{GptValue, empty_gpt}
use Rattle.object_store.specs.Store.{gpt_at, set_gpt, with_items}
use Rattle.object_parts.proofs.Mapped.{overlaid, overlaid_more, overlaid_all}
use Rattle.object_parts.proofs.Buried.{slot_put}
use Rattle.object_parts.proofs.putting.put_gpt.Goals as goal

pub loop-i-preserved : goal.loop-i-preserved
loop-i-preserved c =
    let l = c.loop-i in
    let s = c.args.objects.now in
    let n = c.args.n in
    let new = c.args.gpt.now in
    let old = (gpt_at s.items n).slots in
    let Within : ℕ → Type 0 = λ k. n < k in
    let there : n < length s.items.gpts = subst Within (sym c.in_ranges.ensures.ranged.each) c.requires in
    let more = c.loop-i-test.true in
    let sixteen = c.header.ensures.range.sixteen in
    let within : l.i < length new.slots = omega (arith, more, sixteen) in
    let now : GptValue = record { header = new.header; slots = overlaid new.slots l.i old } in
    c.set_gpt_slot-slot.ensures.after
    ∙ rw (c.slot.ensures.value, l.invariant) (slot_put s n l.i now (get_or new.slots l.i null) there
    ∙ ap (λ (slots : List Capability). with_items s (set_gpt s.items n (record { header = new.header; slots = slots }))) (overlaid_more new.slots l.i old null within))

pub returns : goal.returns
returns c =
    let l = c.loop-i in
    let s = c.args.objects.now in
    let n = c.args.n in
    let new = c.args.gpt.now in
    let old = (gpt_at s.items n).slots in
    let Within : ℕ → Type 0 = λ k. n < k in
    let there : n < length s.items.gpts = subst Within (sym c.in_ranges.ensures.ranged.each) c.requires in
    let end = c.loop-i-test.false in
    let sixteen = c.header.ensures.range.sixteen in
    let before : length old ≡ 16 = (c.in_ranges.ensures.ranged.gpts n empty_gpt there).sixteen in
    l.invariant ∙ ap (λ (slots : List Capability). with_items s (set_gpt s.items n (record { header = new.header; slots = slots }))) (overlaid_all new.slots l.i old (omega (arith, end, sixteen)) (omega (arith, before, sixteen)))
