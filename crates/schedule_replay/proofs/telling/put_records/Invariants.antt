use Rattle.std.proofs.Common.{◌≡◌, ◌++◌, drop}
use Rattle.schedule_replay.specs.Leaves.{LeavesText}
use Rattle.schedule_replay.specs.Told.{lines_of}
use Rattle.schedule_replay.proofs.telling.put_records.Given as goal

-- the lines of the records that were looked at are written, or in the buffer
abbrev pub invariant-each : goal.invariant-each
invariant-each g l = record {
  lines : LeavesText (g.K.Sink.taken l.fn.output) (g.K.Sink.taken l.output) (lines_of l.mode l.all) (l.buffer ++ lines_of l.mode (drop l.i l.all));
  quiet : g.K.Sink.faults l.output ≡ g.K.Sink.faults l.fn.output;
}
