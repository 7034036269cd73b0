use Rattle.std.proofs.Common.{◌≡◌, false}
use Rattle.coy_io.specs.Reader.{TellsEnd}
use Rattle.migrate_command.proofs.Putting.{SoFar}
use Rattle.migrate_command.proofs.lines.put_lines.Given as goal

abbrev pub invariant-lines : goal.invariant-lines
invariant-lines g l = record {
  so_far : SoFar l.harts l.fn.lines l.lines (g.S.Source.held l.fn.source) (g.S.Source.held l.source) (g.K.Sink.taken l.fn.output) (g.K.Sink.taken l.output);
  going : l.lines.failed ≡ false;
  told : TellsEnd l.fn.lines (g.S.Source.held l.fn.source) → TellsEnd l.lines (g.S.Source.held l.source);
  read : g.S.Source.faults l.source ≡ g.S.Source.faults l.fn.source;
  write : g.K.Sink.faults l.output ≡ g.K.Sink.faults l.fn.output;
}

abbrev pub decreases-lines : goal.decreases-lines
decreases-lines g l = l.lines.room
