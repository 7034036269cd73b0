use Rattle.std.proofs.Common.{rules}
use Rattle.coy_io.proofs.GivenLaws.{GivesLines-line}
use Rattle.listing_read.proofs.listing.next_line.Goals as goal

pub returns-in-Ok-Some-clause-reads : goal.returns-in-Ok-Some-clause-reads
returns-in-Ok-Some-clause-reads g c =
    let e = rw c.in-Ok-Some.field-0-is at c.in-Ok-Some.ensures in
    record {
      counted = e.number;
      before = search rules;
      line = e.next;
      given = λ unended. GivesLines-line c.in-Ok-Some.field-0-0 c.next.new.self _ _ unended e.line e.bytes;
      near = e.near;
    }
