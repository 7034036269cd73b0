use Rattle.std.proofs.Common.{◌≡◌, replicate}
use Rattle.state_parts.proofs.fetched.nothing_fetched.Given as goal

-- so many have fetched nothing
abbrev pub invariant-loop : goal.invariant-loop
invariant-loop l = l.fetched.items ≡ replicate l.counter (record { addresses = 1048576; page = 0; stumbled = 1 })
