use Rattle.std.proofs.Common.{◌≡◌, ◌++◌}
use Rattle.separation_check.specs.Crossings.{all_below}
use Rattle.policy_lines.specs.Permission.{channels_from}
use Rattle.policy_lines.proofs.listing.push_channels.Given as goal

abbrev pub invariant-each : goal.invariant-each
invariant-each l = l.lines.items ≡ l.fn.lines.items ++ all_below (channels_from l.policy l.writes) l.a
