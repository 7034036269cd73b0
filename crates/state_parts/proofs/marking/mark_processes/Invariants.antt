use Rattle.std.proofs.Common.{ℕ, ◌<◌}
use Rattle.cap_format.specs.declared.kind.CapKind.TheVariants.{Process}
use Rattle.object_store.specs.Object.{IsAmong}
use Rattle.machine_state.specs.Taking.{names_of}
use Rattle.state_parts.specs.Marking.{AddsThere}
use Rattle.state_parts.proofs.marking.mark_processes.Given as goal

-- the processes so far are marked
abbrev pub invariant-each : goal.invariant-each
invariant-each l = record {
  adds : AddsThere l.objects (names_of l.fn.marked.items) (names_of l.marked.items);
  all : (n : ℕ) → n < l.p → IsAmong Process n (names_of l.marked.items);
}
