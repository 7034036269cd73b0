use Rattle.run_text.specs.Each.{each_below}
use Rattle.coy_io.proofs.Texts.{Written}
use Rattle.explore_program.specs.explored_text.Text.{counted_text}
use Rattle.explore_program.proofs.explored_text.counts.put_counts.Given as goal

abbrev pub invariant-each : goal.invariant-each
invariant-each g l =
    Written (g.K.Sink.taken l.fn.output) (g.K.Sink.taken l.output) (g.K.Sink.faults l.fn.output) (g.K.Sink.faults l.output) (each_below (counted_text l.properties l.counts) l.i)
