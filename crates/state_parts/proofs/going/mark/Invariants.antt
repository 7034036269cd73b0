use Rattle.machine_state.specs.Taking.{names_of}
use Rattle.state_parts.specs.Looking.{IsMore, AreMarked}
use Rattle.state_parts.proofs.going.mark.Given as goal

-- those so far are marked
abbrev pub invariant-loop-i : goal.invariant-loop-i
invariant-loop-i l = record {
  grows : IsMore (names_of l.names) (names_of l.fn.marked.items) (names_of l.marked.items);
  each : AreMarked l.i (names_of l.names) l.old l.new (names_of l.marked.items);
}
