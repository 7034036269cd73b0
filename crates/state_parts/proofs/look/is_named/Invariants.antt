use Rattle.std.proofs.Common.{drop}
use Rattle.object_store.specs.Object.{IsAmong}
use Rattle.machine_state.specs.Taking.{names_of}
use Rattle.state_parts.proofs.look.is_named.Given as goal

-- it is none of those so far
abbrev pub invariant-loop-i : goal.invariant-loop-i
invariant-loop-i l = IsAmong l.name.kind l.name.number (names_of l.names) → IsAmong l.name.kind l.name.number (names_of (drop l.i l.names))
