use Rattle.std.proofs.Common.{◌≡◌, ◌≤◌, ◌+◌, ◌-◌, ◌<◌, length}
use Rattle.std.specs.Io.KnownBytes.{Keeps, prepend_known}
use Rattle.coy_io.specs.Lines.{line_len}
use Rattle.coy_io.specs.Pieces.{CountsIn}
use Rattle.coy_io.specs.declared.window.TheConstants.{WINDOW}
use Rattle.coy_io.proofs.search.find_line.Given as goal

-- no line ends in the bytes read so far, and where one stood in the window nothing was taken
abbrev pub invariant-reading : goal.invariant-reading
invariant-reading g l = record {
  read : l.read ≤ line_len l.window;
  within : length l.window ≤ l.room;
  ahead : Keeps (prepend_known l.fn.window (g.S.Source.held l.fn.source)) (prepend_known l.window (g.S.Source.held l.source));
  first : line_len l.fn.window < length l.fn.window → (l.source ≡ l.fn.source) × (l.window ≡ l.fn.window);
  faults : g.S.Source.faults l.source ≡ g.S.Source.faults l.fn.source;
  counts : CountsIn g.S.Source.given g.S.Source.calls g.S.Source.idle l.fn.source l.source (length l.fn.window) (length l.window) 0 0;
}

abbrev pub decreases-reading : goal.decreases-reading
decreases-reading g l = WINDOW + 1 - length l.window
