use Rattle.std.proofs.Common.{take, flat_map}
use Rattle.coy_io.proofs.Texts.{Written}
use Rattle.separation_program.specs.Text.{further_text}
use Rattle.separation_program.proofs.names.put_further.Given as goal

abbrev pub invariant-each : goal.invariant-each
invariant-each g l =
    Written (g.K.Sink.taken l.fn.output) (g.K.Sink.taken l.output) (g.K.Sink.faults l.fn.output) (g.K.Sink.faults l.output) (flat_map (further_text l.policy) (take l.place l.domains))
