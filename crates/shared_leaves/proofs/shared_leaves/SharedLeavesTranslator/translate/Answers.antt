use Rattle.std.proofs.Common.{◌≡◌, ◌≢◌, ℕ, subst}
use Rattle.object_store.specs.Meaning.{map_of, meaning}
use Rattle.map_cache.specs.Cache.{tlb_at}
use Rattle.shared_leaves.specs.Cache.{SharedCache, kept_of}
use Rattle.shared_leaves.specs.Effects.{value_of}
use Rattle.shared_leaves.specs.Kept.{kept_after, tlb_after}
use Rattle.shared_leaves.proofs.shared_leaves.SharedLeavesTranslator.translate.Goals as goal

pub returns-clause-after : goal.returns-clause-after
returns-clause-after g c =
    let o = map_of c.args.objects.now.items in
    let space = meaning c.args.objects.now.items c.args.space in
    let After : SharedCache → Type 0 = λ v. kept_of (value_of c.translate.new.self) ≡ kept_after (kept_of v) o space c.args.address c.args.kind in
    subst After c.self.view_is c.translate.ensures.after

pub returns-clause-others : goal.returns-clause-others
returns-clause-others g c =
    let o = map_of c.args.objects.now.items in
    let space = meaning c.args.objects.now.items c.args.space in
    let Others : SharedCache → Type 0 =
    λ v. (k : ℕ) → k ≢ c.args.hart → tlb_at (value_of c.translate.new.self).tlbs k ≡ tlb_after (kept_of v) o space c.args.address c.args.kind (tlb_at v.tlbs k) in
    subst Others c.self.view_is c.translate.ensures.others
