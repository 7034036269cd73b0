use Rattle.std.proofs.Common.{◌≡◌, ◌<◌, ◌≤◌, ℕ, length}
use Rattle.tlb_model.specs.Tlb.{without_block}
use Rattle.map_cache.specs.Cache.{tlb_at}
use Rattle.map_cache.proofs.tlbs.drop_block.Given as goal

abbrev pub invariant-harts : goal.invariant-harts
invariant-harts l = record {
  dropped : (k : ℕ) → k < l.hart → tlb_at l.tlbs.items k ≡ without_block (tlb_at l.initial.tlbs.items k) l.root l.block;
  left : (k : ℕ) → l.hart ≤ k → tlb_at l.tlbs.items k ≡ tlb_at l.initial.tlbs.items k;
  harts : length l.tlbs.items ≡ length l.initial.tlbs.items;
}
