use Rattle.std.proofs.Common.{◌≡◌, take}
use Rattle.policy_lines.specs.Needed.{barred}
use Rattle.policy_lines.proofs.naming.barred.Given as goal

abbrev pub invariant-each : goal.invariant-each
invariant-each l = l.those.items ≡ barred l.count (take l.i l.found)
