use Rattle.std.proofs.Common.{◌≡◌}
use Rattle.questions.specs.Asking.{asking_below, is_sought}
use Rattle.questions.proofs.properties.numbers.Given as goal

abbrev pub invariant-each : goal.invariant-each
invariant-each l = l.numbers.items ≡ asking_below (is_sought l.sought) l.properties l.n
