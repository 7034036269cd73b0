use Rattle.std.proofs.Common.{◌≡◌, ◌≢◌, ◌+◌, ◌≤◌, Some, length, drop}
use Rattle.schedules.specs.Queues.{hart_of}
use Rattle.string_move.specs.Move.{ArePieces}
use Rattle.machine_state.specs.State.{state_of}
use Rattle.messages.specs.Strings.{side}
use Rattle.messages.proofs.Sides.{IsOnWay}
use Rattle.messages.proofs.strings.access_spans.Given as goal

abbrev pub invariant-each : goal.invariant-each
invariant-each g l = record {
  way : IsOnWay g.T.Translator g.O.Observer.notes (λ h. hart_of l.fn.machine.queues h ≢ Some l.p) (side (state_of l.fn.machine) l.q l.kind l.list) l.fn.machine.translator (g.O.Observer.told l.fn.observer) l.fn.fetches (side (state_of l.fn.machine) l.q l.kind (drop l.span-index l.list)) l.pieces l.machine.translator (g.O.Observer.told l.observer) l.fetches;
  state : state_of l.machine ≡ state_of l.fn.machine;
  objects : l.machine.objects ≡ l.fn.machine.objects;
  queues : l.machine.queues ≡ l.fn.machine.queues;
  there : ArePieces l.fn.machine.objects.items l.pieces;
  number : length l.pieces ≤ l.span-index;
  most : length (g.O.Observer.told l.observer) ≤ length (g.O.Observer.told l.fn.observer) + l.span-index;
}
