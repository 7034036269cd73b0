use Rattle.std.proofs.Common.{◌≡◌, ◌≤◌, ◌<◌, ℕ, None}
use Rattle.sv32_tables.specs.Pool.{leaf_at}
use Rattle.map_cache.proofs.mapping.next_page.Given as goal

abbrev pub invariant-pages : goal.invariant-pages
invariant-pages l = (p : ℕ) → l.first ≤ p → p < l.page → leaf_at l.tables l.root p ≡ None
