use Rattle.std.proofs.Common.{◌≡◌, ◌≤◌, false, length}
use Rattle.coy_io.specs.Reader.{TellsEnd}
use Rattle.listing_read.proofs.Follows.{Follows, HoldsIn}
use Rattle.listing_read.proofs.listing.read_listing.Given as goal

abbrev pub invariant-lines : goal.invariant-lines
invariant-lines g l =
    record {
      going : l.lines.failed ≡ false;
      quiet : g.S.Source.faults l.source ≡ g.S.Source.faults l.fn.source;
      told : TellsEnd l.fn.lines (g.S.Source.held l.fn.source) → TellsEnd l.lines (g.S.Source.held l.source);
      follows : Follows l.fn.lines l.lines (g.S.Source.held l.fn.source) (g.S.Source.held l.source) l.statements.items l.place;
      holds : HoldsIn l.place l.statements.items;
      few : length l.statements.items ≤ l.lines.number;
    }

abbrev pub decreases-lines : goal.decreases-lines
decreases-lines g l = l.lines.room
