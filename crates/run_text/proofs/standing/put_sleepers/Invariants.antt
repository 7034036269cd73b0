use Rattle.run_text.specs.State.{sleepers_text}
use Rattle.coy_io.proofs.Texts.{Written}
use Rattle.run_text.proofs.standing.put_sleepers.Given as goal

abbrev pub invariant-each : goal.invariant-each
invariant-each g l = record {
  written : Written (g.K.Sink.taken l.fn.output) (g.K.Sink.taken l.output) (g.K.Sink.faults l.fn.output) (g.K.Sink.faults l.output) (sleepers_text l.queues l.on);
}
