use Rattle.std.proofs.Common.{◌≡◌, take}
use Rattle.policy_lines.specs.Least.{with_lines}
use Rattle.policy_lines.proofs.allowing.allow_all.Given as goal

abbrev pub invariant-each : goal.invariant-each
invariant-each l = l.policy ≡ with_lines l.fn.policy (take l.i l.lines)
