use Rattle.std.proofs.Common.{◌≡◌, map, refl, arith, ◌∙◌}
use Rattle.std.proofs.lemmas.List.{ext_get_or, get_or-map, length-map}
use Rattle.cap_format.specs.Capability.{null}
use Rattle.object_store.specs.Meaning.{live}
use Rattle.object_parts.proofs.compare.all_live_cap_registers_same.Goals as goal

-- both have 32, and each of them is the same
pub returns : goal.returns
returns c =
    let o = c.args.objects.now.items in
    let a = c.args.a.now.capregs in
    let b = c.args.b.now.capregs in
    let mapped = length-map a (live o) in
    let here = c.tell_range.ensures.cap_registers in
    let there = c.tell_range-2.ensures.cap_registers in
    let end = c.loop-eight-test.false in
    let same : map (live o) a ≡ b =
    ext_get_or null (map (live o) a) b (omega (arith, mapped, here, there))
    (λ i below. get_or-map (live o) a i null null (omega (arith, below, mapped)) ∙ c.loop-eight.invariant i (omega (arith, below, mapped, here, end))) in
    (λ _. same, λ _. refl)
