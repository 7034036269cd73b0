use Rattle.std.proofs.Common.{length}
use Rattle.shared_leaves.specs.Effects.{Forgets, IsKept, value_of}
use Rattle.shared_leaves.proofs.leaves.LeafTables.forget_item.Given as goal

abbrev pub invariant-records : goal.invariant-records
invariant-records l = record {
  kept : IsKept l.self;
  forgets : Forgets (value_of l.initial.self) (value_of l.self) l.item;
}

abbrev pub decreases-records : goal.decreases-records
decreases-records l = length l.self.records
