use Rattle.std.proofs.Common.{◌≡◌, ◌==◌, false, not, length}
use Rattle.schedules.specs.Queues.{ready_queue}
use Rattle.quiet_runs.specs.Finding.{is_below}
use Rattle.questions.proofs.standing.some_ready.Given as goal

abbrev pub invariant-each : goal.invariant-each
invariant-each l = is_below (λ priority. not (length (ready_queue l.queues priority) == 0)) l.priority ≡ false
