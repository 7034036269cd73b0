use Rattle.std.proofs.Common.{take, flat_map}
use Rattle.coy_io.proofs.Texts.{Written}
use Rattle.image_binary.specs.Statements.{statement_bytes}
use Rattle.image_binary.proofs.packing.put_statements.Given as goal

-- the bytes of the statements so far were written
abbrev pub invariant-each : goal.invariant-each
invariant-each g l =
    let all = flat_map (statement_bytes l.listing.sizes) (take l.statement-index l.listing.statements) in
    Written (g.K.Sink.taken l.fn.output) (g.K.Sink.taken l.output) (g.K.Sink.faults l.fn.output) (g.K.Sink.faults l.output) all
