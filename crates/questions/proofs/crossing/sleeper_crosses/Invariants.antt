use Rattle.std.proofs.Common.{◌≡◌, false}
use Rattle.separation_check.specs.Crossings.{all_below, process_crossings}
use Rattle.questions.specs.Atom.{is_any}
use Rattle.questions.proofs.crossing.sleeper_crosses.Given as goal

abbrev pub invariant-each : goal.invariant-each
invariant-each l = is_any (all_below (process_crossings l.policy l.queues) l.p) ≡ false
