use Rattle.std.proofs.Common.{◌≡◌, ◌≢◌, ℕ, sym, subst}
use Rattle.std.specs.Prelude.{IfSome}
use Rattle.object_store.specs.Meaning.{map_of, meaning}
use Rattle.walk_engine.specs.declared.hit.Hit.{Hit}
use Rattle.map_cache.specs.Cache.{tlb_at}
use Rattle.shared_leaves.specs.Cache.{SharedCache, kept_of}
use Rattle.shared_leaves.specs.Coherent.{IsCoherent}
use Rattle.shared_leaves.specs.Effects.{value_of}
use Rattle.shared_leaves.specs.Kept.{kept_after, tlb_after}
use Rattle.shared_leaves.proofs.shared_leaves.SharedLeavesTranslator.find_kept.Goals as goal

pub find_kept-requires-clause-coherent : goal.find_kept-requires-clause-coherent
find_kept-requires-clause-coherent c = subst (λ (v : SharedCache). IsCoherent v (map_of c.args.objects.now.items)) (sym c.self.view_is) c.requires.coherent

pub returns-clause-after : goal.returns-clause-after
returns-clause-after c =
    let o = map_of c.args.objects.now.items in
    let space = meaning c.args.objects.now.items c.args.space in
    let After : SharedCache → Type 0 =
    λ v. IfSome c.find_kept.result (λ (hit : Hit). kept_of (value_of c.find_kept.new.self) ≡ kept_after (kept_of v) o space c.args.address c.args.kind) in
    subst After c.self.view_is c.find_kept.ensures.after

pub returns-clause-others : goal.returns-clause-others
returns-clause-others c =
    let o = map_of c.args.objects.now.items in
    let space = meaning c.args.objects.now.items c.args.space in
    let Others : SharedCache → Type 0 =
    λ v. IfSome c.find_kept.result (λ (hit : Hit). (k : ℕ) → k ≢ c.args.hart → tlb_at (value_of c.find_kept.new.self).tlbs k ≡ tlb_after (kept_of v) o space c.args.address c.args.kind (tlb_at v.tlbs k)) in
    subst Others c.self.view_is c.find_kept.ensures.others
