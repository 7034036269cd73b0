use Rattle.std.proofs.Common.{◌≡◌, ◌==◌, ◌&&◌, ◌/◌, ℕ, nat_le, nat_lt, if◌then◌else◌, None}
use Rattle.sv32_tables.specs.Pool.{IsPlace, leaf_at}
use Rattle.sv32_tables.proofs.pool.TablePool.clear.Given as goal

-- the regions below this one are cleared, and nothing else changed
abbrev pub invariant-regions : goal.invariant-regions
invariant-regions l = record {
  leaves : (r page : ℕ) → IsPlace l.initial.self r page
      → leaf_at l.self r page ≡ (if (r == l.root) && ((nat_le l.first page && nat_lt page l.end) && nat_lt (page / 1024) l.region) then None else leaf_at l.initial.self r page);
  uses : l.self.uses ≡ l.initial.self.uses;
}
