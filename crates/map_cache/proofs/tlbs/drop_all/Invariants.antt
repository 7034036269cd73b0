use Rattle.std.proofs.Common.{◌≡◌, ◌<◌, [], ℕ, length}
use Rattle.map_cache.specs.Cache.{tlb_at}
use Rattle.map_cache.proofs.tlbs.drop_all.Given as goal

abbrev pub invariant-harts : goal.invariant-harts
invariant-harts l = record {
  dropped : (k : ℕ) → k < l.hart → tlb_at l.tlbs.items k ≡ [];
  harts : length l.tlbs.items ≡ length l.initial.tlbs.items;
}
