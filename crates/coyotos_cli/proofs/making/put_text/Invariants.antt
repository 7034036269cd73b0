use Rattle.std.proofs.Common.{◌≡◌, length}
use Rattle.schedule_replay.specs.Leaves.{LeavesText}
use Rattle.coyotos_cli.specs.Made.{made_left}
use Rattle.coyotos_cli.proofs.making.put_text.Given as goal

-- what the source gave is written
abbrev pub invariant-pieces : goal.invariant-pieces
invariant-pieces g l = record {
  text : LeavesText (g.K.Sink.taken l.fn.output) (g.K.Sink.taken l.output) (made_left l.fn.source) (made_left l.source);
  quiet : g.K.Sink.faults l.output ≡ g.K.Sink.faults l.fn.output;
}

abbrev pub decreases-pieces : goal.decreases-pieces
decreases-pieces g l = length (made_left l.source)
