use Rattle.std.proofs.Common.{◌≡◌, ◌+◌, ◌≤◌, drop, map}
use Rattle.machine_state.specs.Taking.{names_of, slots_taken}
use Rattle.object_parts.specs.Live.{live_store}
use Rattle.object_parts.specs.Objects.{object_in}
use Rattle.state_parts.proofs.Looked.{AreFound}
use Rattle.state_parts.proofs.look.look_anew.Given as goal

-- the numbers so far stand for the objects
abbrev pub invariant-loop-i : goal.invariant-loop-i
invariant-loop-i g l = record {
  found : AreFound (map object_in l.fn.table) (map object_in l.table) l.found.items l.names (live_store l.objects) l.i;
  least : l.fn.fetches ≤ l.fetches;
  counted : l.fetches + slots_taken (names_of (drop l.i l.names)) ≡ l.fn.fetches + slots_taken (names_of l.names);
}
