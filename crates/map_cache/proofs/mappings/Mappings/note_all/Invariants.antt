use Rattle.std.proofs.Common.{◌≡◌, length, take}
use Rattle.map_cache.specs.Cache.{space_at}
use Rattle.map_cache.specs.Effects.{IsKept, NotesReads, value_of}
use Rattle.map_cache.proofs.mappings.Mappings.note_all.Given as goal

abbrev pub invariant-reads : goal.invariant-reads
invariant-reads l = record {
  kept : IsKept l.self;
  done : NotesReads (value_of l.initial.self) (value_of l.self) (space_at l.initial.self.keys.items l.root) l.root (take l.read-index l.reads);
  harts : length l.self.tlbs.items ≡ length l.initial.self.tlbs.items;
}
