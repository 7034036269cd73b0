use Rattle.std.proofs.Common.{◌-◌}
use Rattle.run_text.specs.Each.{each_below}
use Rattle.run_text.specs.declared.standing.Queue.TheVariants.{Ready}
use Rattle.run_text.specs.State.{queue_line}
use Rattle.coy_io.proofs.Texts.{Written}
use Rattle.run_text.proofs.standing.put_ready.Given as goal

abbrev pub invariant-each : goal.invariant-each
invariant-each g l = record {
  written : Written (g.K.Sink.taken l.fn.output) (g.K.Sink.taken l.output) (g.K.Sink.faults l.fn.output) (g.K.Sink.faults l.output) (each_below (λ k. queue_line l.queues (Ready (7 - k))) l.below);
}
