use Rattle.std.proofs.Common.{◌≡◌, ◌<◌, ◌≤◌, ℕ}
use Rattle.slab.specs.Slab.{get}
use Rattle.depend_table.specs.Chain.{IsLinkedTo, record_at, unless_within}
use Rattle.depend_table.proofs.linking.drop_nodes.Given as goal

-- the keys below this one are done, and the nodes from it on are as they were
abbrev pub invariant-keys : goal.invariant-keys
invariant-keys l = record {
  linked : IsLinkedTo l.nodes l.chains.items l.key;
  done : (k : ℕ) → k < l.key → record_at (get l.nodes k) ≡ unless_within l.root l.block (record_at (get l.initial.nodes k));
  left : (k : ℕ) → l.key ≤ k → get l.nodes k ≡ get l.initial.nodes k;
  capacity : l.nodes.capacity ≡ l.initial.nodes.capacity;
}
