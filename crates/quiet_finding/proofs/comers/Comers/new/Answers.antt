use Rattle.std.proofs.Common.{◌≡◌, ℕ, suc, ◌+◌, ◌<◌, refl, ◌∙◌, ap, subst, arith}
use Rattle.cap_format.specs.declared.kind.CapKind.TheVariants.{Gpt}
use Rattle.object_store.specs.declared.sizes.Sizes.{Sizes}
use Rattle.object_store.specs.Store.{size_of}
use Rattle.object_store.specs.Meaning.{state_map}
use Rattle.quiet_runs.specs.declared.reached_by.ReachedBy.TheVariants.{Nobody}
use Rattle.quiet_finding.specs.Comers.{ComersValue, to_gpt}
use Rattle.quiet_finding.specs.Passing.{IsWithin}
use Rattle.quiet_finding.proofs.Rounds.{all-rounds, first-round, gpt-count, next-round, nothing-gpt, stable-rounds}
use Rattle.quiet_finding.proofs.comers.Comers.new.Goals as goal

pub each-init : goal.each-init
each-init g c =
    let s = c.args.objects.now in
    let none : (n : ℕ) → to_gpt c.in_ok-first.first n ≡ Nobody = λ n. ap (λ (r : ComersValue). to_gpt r n) c.in_ok-first.ensures ∙ nothing-gpt c.sizes.result n in
    record {
      within = first-round s c.tell_full.ensures c.in_ok-base.base c.in_ok-first.first c.in_ok-last.last c.in_ok-base.ensures.value c.in_ok-last.ensures.value none;
      least = omega (arith, c.in_ok-last.ensures.counted, c.in_ok-base.ensures.counted);
      most = omega (arith, c.in_ok-last.ensures.counted, c.in_ok-base.ensures.counted);
    }

pub each-preserved : goal.each-preserved
each-preserved g c =
    let s = c.args.objects.now in
    let next : suc c.each.counter ≡ c.each.counter + 1 = omega arith in
    let within = next-round s c.tell_full.ensures c.in_ok-base.base c.each.last c.in_ok-next.next c.in_ok-base.ensures.value c.in_ok-next.ensures.value c.each.counter c.each.invariant.within in
    record {
      within = subst (λ (n : ℕ). IsWithin (state_map s) n c.in_ok-next.next) next within;
      least = omega (arith, c.in_ok-next.ensures.counted, c.each.invariant.least);
      most = omega (arith, c.in_ok-next.ensures.counted, c.each.invariant.most);
    }

pub returns-then-has_gpts_of-clause-value : goal.returns-then-has_gpts_of-clause-value
returns-then-has_gpts_of-clause-value g c =
    let s = c.args.objects.now in
    let size = ap (λ (z : Sizes). z.gpts) c.sizes-end.ensures.value in
    let below : c.each.counter < size_of s.items Gpt = omega (arith, size) in
    let within = next-round s c.tell_full.ensures c.in_ok-base.base c.each.last c.in_ok-next.next c.in_ok-base.ensures.value c.in_ok-next.ensures.value c.each.counter c.each.invariant.within in
    stable-rounds s c.tell_full.ensures c.each.counter c.each.last c.in_ok-next.next below c.each.invariant.within within (c.if-has_gpts_of.ensures.0 refl)

pub returns-clause-value : goal.returns-clause-value
returns-clause-value g c =
    let s = c.args.objects.now in
    let size = ap (λ (z : Sizes). z.gpts) c.sizes-end.ensures.value in
    let end : c.each.counter ≡ size_of s.items Gpt = omega (arith, size) in
    all-rounds s c.tell_full.ensures c.each.last (subst (λ (n : ℕ). IsWithin (state_map s) n c.each.last) (end ∙ gpt-count s c.tell_full.ensures) c.each.invariant.within)
