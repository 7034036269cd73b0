use Rattle.std.proofs.Common.{◌≡◌, ◌++◌}
use Rattle.separation_check.specs.Crossings.{all_below, listed}
use Rattle.policy_lines.specs.Permission.{logging_by}
use Rattle.policy_lines.proofs.listing.push_logging.Given as goal

abbrev pub invariant-each : goal.invariant-each
invariant-each l = l.lines.items ≡ l.fn.lines.items ++ all_below (λ a. listed (logging_by l.policy a)) l.a
