use Rattle.std.proofs.Common.{◌≡◌, false}
use Rattle.separation_check.specs.Crossings.{all_below, listed, sleeper_on}
use Rattle.questions.specs.Atom.{is_any}
use Rattle.questions.proofs.crossing.process_crosses.Given as goal

abbrev pub invariant-each : goal.invariant-each
invariant-each l = is_any (all_below (λ on. listed (sleeper_on l.policy l.queues l.p on)) l.on) ≡ false
