use Rattle.std.proofs.Common.{take}
use Rattle.machine_state.specs.Taking.{names_of}
use Rattle.state_parts.specs.Marking.{HaveCounts}
use Rattle.state_parts.proofs.look.counts_same.Given as goal

-- the counts so far are the same
abbrev pub invariant-each : goal.invariant-each
invariant-each l = HaveCounts l.a l.b (names_of (take l.i l.names))
