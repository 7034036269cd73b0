use Rattle.std.proofs.Common.{take, flat_map}
use Rattle.statement_text.specs.Text.{statement_text}
use Rattle.coy_io.proofs.Texts.{Written}
use Rattle.statement_text.proofs.listing.put_statements.Given as goal

-- the lines of the statements so far were written
abbrev pub invariant-each : goal.invariant-each
invariant-each g l =
    Written (g.K.Sink.taken l.fn.output) (g.K.Sink.taken l.output) (g.K.Sink.faults l.fn.output) (g.K.Sink.faults l.output) (flat_map statement_text (take l.statement-index l.listing.statements))
