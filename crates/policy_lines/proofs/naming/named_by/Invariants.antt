use Rattle.std.proofs.Common.{◌≡◌, take}
use Rattle.policy_lines.specs.Needed.{named_by}
use Rattle.policy_lines.proofs.naming.named_by.Given as goal

abbrev pub invariant-each : goal.invariant-each
invariant-each l = l.lines.items ≡ named_by l.count (take l.i l.found)
