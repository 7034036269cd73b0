use Rattle.std.proofs.Common.{◌≡◌, ◌++◌}
use Rattle.separation_check.specs.Crossings.{all_below, listed}
use Rattle.policy_lines.specs.Permission.{channel_by}
use Rattle.policy_lines.proofs.listing.push_channels_from.Given as goal

abbrev pub invariant-each : goal.invariant-each
invariant-each l = l.lines.items ≡ l.fn.lines.items ++ all_below (λ b. listed (channel_by l.policy l.writes l.a b)) l.b
