use Rattle.std.proofs.Common.{ap}
use Rattle.run_text.specs.State.{queue_line}
use Rattle.coy_io.proofs.Texts.{same}
use Rattle.run_text.proofs.Texts.{none_yet, one_more, one_stops, all_done}
use Rattle.run_text.proofs.standing.put_ready.Goals as goal

pub each-init : goal.each-init
each-init g c = record { written = none_yet _ _ _ }

pub each-preserved : goal.each-preserved
each-preserved g c = record { written = one_more _ _ _ _ _ _ _ _ _ c.each.invariant.written (same _ _ _ _ _ _ _ (ap (queue_line c.args.queues.now) c.ready_queue.ensures) c.in_ok-put_queue.ensures) }

pub returns-in_err-put_queue : goal.returns-in_err-put_queue
returns-in_err-put_queue g c =
    one_stops _ _ _ _ _ _ _ _ _ _ _ c.each-test.true c.from_residual.ensures.0 c.each.invariant.written (same _ _ _ _ _ _ _ (ap (queue_line c.args.queues.now) c.ready_queue.ensures) c.in_err-put_queue.ensures)

pub returns : goal.returns
returns g c = all_done _ _ _ _ _ _ _ _ c.each-test.false c.each.auto.below-end c.each.invariant.written
