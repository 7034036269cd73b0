use Rattle.std.proofs.Common.{◌≡◌, false}
use Rattle.coy_io.specs.Reader.{TellsEnd}
use Rattle.judged_lines.specs.Judged.{Takes}
use Rattle.judged_lines.proofs.judging.judge_all.Given as goal

abbrev pub invariant-lines : goal.invariant-lines
invariant-lines g l = record {
  takes : Takes (g.J.Judge.judged l.judge) l.fn.made l.made l.fn.lines l.lines (g.S.Source.held l.fn.source) (g.S.Source.held l.source);
  going : l.lines.failed ≡ false;
  told : TellsEnd l.fn.lines (g.S.Source.held l.fn.source) → TellsEnd l.lines (g.S.Source.held l.source);
  read : g.S.Source.faults l.source ≡ g.S.Source.faults l.fn.source;
}

abbrev pub decreases-lines : goal.decreases-lines
decreases-lines g l = l.lines.room
