use Rattle.std.proofs.Common.{◌≡◌, false, is_some}
use Rattle.schedules.specs.Queues.{hart_of}
use Rattle.quiet_runs.specs.Finding.{is_below}
use Rattle.questions.proofs.standing.some_on_hart.Given as goal

abbrev pub invariant-each : goal.invariant-each
invariant-each l = is_below (λ hart. is_some (hart_of l.queues hart)) l.hart ≡ false
