use Rattle.std.proofs.Common.{take, flat_map}
use Rattle.coy_io.proofs.Texts.{Written}
use Rattle.separation_program.specs.Text.{line_text}
use Rattle.separation_program.proofs.least_lines.put_lines.Given as goal

abbrev pub invariant-each : goal.invariant-each
invariant-each g l =
    Written (g.K.Sink.taken l.fn.output) (g.K.Sink.taken l.output) (g.K.Sink.faults l.fn.output) (g.K.Sink.faults l.output) (flat_map (line_text l.policy) (take l.place l.lines))
