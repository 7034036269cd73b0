use Rattle.std.proofs.Common.{◌≡◌, map, take}
use Rattle.questions.specs.Asking.{property_at}
use Rattle.exploration.specs.Explored.{want_by}
use Rattle.exploration.proofs.machine_space.exploring.wants_of.Given as goal

abbrev pub invariant-each : goal.invariant-each
invariant-each l = l.wants.items ≡ map (λ n. want_by (property_at l.properties n).asks n) (take l.i l.numbers.items)
