use Rattle.std.proofs.Common.{◌≡◌}
use Rattle.confine_check.specs.Sides.{cut_of}
use Rattle.confine_check.specs.Breach.{least_below, least_on}
use Rattle.confine_check.proofs.sleeping.sleeper_of.Given as goal

abbrev pub invariant-each : goal.invariant-each
invariant-each l = l.least ≡ least_below (least_on (cut_of l.cut) l.queues) l.on
