use Rattle.std.proofs.Common.{◌≡◌, sym, subst}
use Rattle.map_cache.specs.Cache.{tlb_at}
use Rattle.shared_leaves.specs.Cache.{SharedCache, kept_of}
use Rattle.shared_leaves.specs.Effects.{value_of}
use Rattle.shared_leaves.specs.Kept.{kept_without, tlb_without}
use Rattle.shared_leaves.specs.Coherent.{IsCoherent}
use Rattle.shared_leaves.proofs.shared_leaves.SharedLeavesTranslator.invalidate.Goals as goal

pub returns-clause-coherent : goal.returns-clause-coherent
returns-clause-coherent c = λ o p differ coherent.
    c.forget_item.ensures.coherent o p differ (subst (λ (v : SharedCache). IsCoherent v o) (sym c.self.view_is) coherent)

pub returns-clause-without : goal.returns-clause-without
returns-clause-without c =
    let Without : SharedCache → Type 0 = λ v. kept_of (value_of c.forget_item.new.self) ≡ kept_without (kept_of v) c.args.item in
    subst Without c.self.view_is c.forget_item.ensures.without

pub returns-clause-purged : goal.returns-clause-purged
returns-clause-purged c = λ k.
    let Purged : SharedCache → Type 0 = λ v. tlb_at (value_of c.forget_item.new.self).tlbs k ≡ tlb_without (kept_of v) c.args.item (tlb_at v.tlbs k) in
    subst Purged c.self.view_is (c.forget_item.ensures.purged k)
