use Rattle.run_text.specs.State.{harts_text}
use Rattle.coy_io.proofs.Texts.{Written}
use Rattle.run_text.proofs.standing.put_harts.Given as goal

abbrev pub invariant-each : goal.invariant-each
invariant-each g l = record {
  written : Written (g.K.Sink.taken l.fn.output) (g.K.Sink.taken l.output) (g.K.Sink.faults l.fn.output) (g.K.Sink.faults l.output) (harts_text l.queues l.hart);
}
