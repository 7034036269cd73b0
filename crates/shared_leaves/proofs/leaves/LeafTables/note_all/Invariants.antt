use Rattle.std.proofs.Common.{◌≡◌, length, take}
use Rattle.shared_leaves.specs.Cache.{key_at}
use Rattle.shared_leaves.specs.Effects.{IsKept, NotesReads, value_of}
use Rattle.shared_leaves.proofs.leaves.LeafTables.note_all.Given as goal

abbrev pub invariant-reads : goal.invariant-reads
invariant-reads l = record {
  kept : IsKept l.self;
  done : NotesReads (value_of l.initial.self) (value_of l.self) (key_at l.initial.self.keys.items l.frame) l.frame (take l.read-index l.reads);
  harts : length l.self.tlbs.items ≡ length l.initial.self.tlbs.items;
}
