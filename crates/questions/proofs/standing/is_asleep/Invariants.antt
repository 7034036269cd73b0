use Rattle.std.proofs.Common.{◌≡◌, false}
use Rattle.schedules.specs.Queues.{sleepers_of, stands_in}
use Rattle.quiet_runs.specs.Finding.{is_below}
use Rattle.questions.proofs.standing.is_asleep.Given as goal

abbrev pub invariant-each : goal.invariant-each
invariant-each l = is_below (λ on. stands_in (sleepers_of l.queues on) l.p) l.on ≡ false
