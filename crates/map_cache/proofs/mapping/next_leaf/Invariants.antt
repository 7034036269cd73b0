use Rattle.std.proofs.Common.{◌≡◌, ◌≤◌, ◌<◌, ◌*◌, ℕ, None}
use Rattle.sv32_tables.specs.Pool.{leaf_at}
use Rattle.map_cache.proofs.mapping.next_leaf.Given as goal

abbrev pub invariant-regions : goal.invariant-regions
invariant-regions l = (p : ℕ) → l.first ≤ p → p < l.region * 1024 → leaf_at l.tables l.root p ≡ None
