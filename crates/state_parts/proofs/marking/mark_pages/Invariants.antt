use Rattle.std.proofs.Common.{take}
use Rattle.string_move.specs.Move.{page_names}
use Rattle.machine_state.specs.Taking.{names_of}
use Rattle.state_parts.specs.Marking.{AddsThere, HasThere}
use Rattle.state_parts.proofs.marking.mark_pages.Given as goal

-- the pages so far are marked
abbrev pub invariant-each : goal.invariant-each
invariant-each l = record {
  adds : AddsThere l.objects (names_of l.fn.marked.items) (names_of l.marked.items);
  has : HasThere l.objects (page_names (take l.i l.list)) (names_of l.marked.items);
}
