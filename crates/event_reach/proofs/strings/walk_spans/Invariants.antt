use Rattle.std.proofs.Common.{◌+◌, ◌*◌, ◌≤◌, length, drop}
use Rattle.machine_state.specs.State.{state_of}
use Rattle.messages.specs.Strings.{side}
use Rattle.event_reach.specs.Reads.{a_walk}
use Rattle.event_reach.proofs.Walked.{IsOnWay}
use Rattle.event_reach.proofs.strings.walk_spans.Given as goal

abbrev pub invariant-each : goal.invariant-each
invariant-each g l = record {
  way : IsOnWay (side (state_of l.fn.machine) l.q l.kind l.list) (side (state_of l.fn.machine) l.q l.kind (drop l.span-index l.list)) l.pieces;
  number : length l.pieces ≤ l.span-index;
  within : l.span-index ≤ length l.list;
  least : l.fn.fetches ≤ l.fetches;
  most : l.fetches ≤ l.fn.fetches + a_walk * l.span-index;
}
