use Rattle.std.proofs.Common.{◌≡◌, ◌≤◌, ◌^◌, length}
use Rattle.map_cache.specs.Mappings.{mappings_left, mappings_of}
use Rattle.schedule_replay.specs.Leaves.{LeavesText}
use Rattle.schedule_commands.specs.Tables.{entries_text}
use Rattle.schedule_commands.proofs.tables.put_entries.Given as goal

-- the entries before the place are written
abbrev pub invariant-entries : goal.invariant-entries
invariant-entries g l = record {
  text : LeavesText (g.K.Sink.taken l.fn.output) (g.K.Sink.taken l.output) (entries_text (mappings_of l.cache)) (entries_text (mappings_left l.cache l.place));
  inside : l.place.page ≤ 2 ^ 20;
  quiet : g.K.Sink.faults l.output ≡ g.K.Sink.faults l.fn.output;
}

abbrev pub decreases-entries : goal.decreases-entries
decreases-entries g l = length (mappings_left l.cache l.place)
