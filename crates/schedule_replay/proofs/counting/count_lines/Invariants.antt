use Rattle.std.proofs.Common.{◌≡◌, ◌≤◌, ◌+◌, false}
use Rattle.coy_io.specs.Limits.{input_limit}
use Rattle.coy_io.specs.Reader.{TellsEnd}
use Rattle.schedule_replay.proofs.Counted.{CountsLines}
use Rattle.schedule_replay.proofs.counting.count_lines.Given as goal

abbrev pub invariant-lines : goal.invariant-lines
invariant-lines g l = record {
  counted : CountsLines l.harts l.fn.lines (g.S.Source.held l.fn.source) l.lines (g.S.Source.held l.source) l.events;
  bound : l.lines.number ≤ l.fn.lines.number + input_limit + 1;
  going : l.lines.failed ≡ false;
  told : TellsEnd l.fn.lines (g.S.Source.held l.fn.source) → TellsEnd l.lines (g.S.Source.held l.source);
  read : g.S.Source.faults l.source ≡ g.S.Source.faults l.fn.source;
}

abbrev pub decreases-lines : goal.decreases-lines
decreases-lines g l = l.lines.room
