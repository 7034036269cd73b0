use Rattle.std.proofs.Common.{◌≡◌, ◌++◌}
use Rattle.machine_state.specs.Taking.{names_of}
use Rattle.state_parts.specs.Keys.{numbered}
use Rattle.state_parts.proofs.names.add_names.Given as goal

-- the names so far are added
abbrev pub invariant-loop-number : goal.invariant-loop-number
invariant-loop-number l = names_of l.names.items ≡ names_of l.fn.names.items ++ numbered l.kind l.number
