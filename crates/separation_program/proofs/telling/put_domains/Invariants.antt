use Rattle.run_text.specs.Each.{each_below}
use Rattle.coy_io.proofs.Texts.{Written}
use Rattle.separation_program.specs.Text.{domain_text}
use Rattle.separation_program.proofs.telling.put_domains.Given as goal

abbrev pub invariant-each : goal.invariant-each
invariant-each g l =
    Written (g.K.Sink.taken l.fn.output) (g.K.Sink.taken l.output) (g.K.Sink.faults l.fn.output) (g.K.Sink.faults l.output) (each_below (domain_text l.policy l.marks) l.domain)
