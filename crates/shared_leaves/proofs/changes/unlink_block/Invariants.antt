use Rattle.std.proofs.Common.{◌≡◌, ◌*◌, ◌<◌, ◌==◌, ◌&&◌, ℕ, nat_lt, if◌then◌else◌, None}
use Rattle.guard_math.specs.Block.{holds}
use Rattle.sv32_tables.specs.Shared.{IsSharedRoot, link_at}
use Rattle.sv32_tables.specs.SharedHistory.{SameEntries}
use Rattle.shared_leaves.proofs.changes.unlink_block.Given as goal

-- the regions below this one that lie in the block have no link
abbrev pub invariant-regions : goal.invariant-regions
invariant-regions l = record {
  links : (r i : ℕ) → IsSharedRoot l.initial.tables r → i < 1024
      → link_at l.tables r i ≡ (if (r == l.root) && (holds l.block (i * 1024) && nat_lt i l.region) then None else link_at l.initial.tables r i);
  entries : SameEntries l.initial.tables l.tables;
  uses : l.tables.uses ≡ l.initial.tables.uses;
}
