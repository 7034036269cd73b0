use Rattle.std.proofs.Common.{◌≡◌, ◌+◌, ◌≤◌, drop}
use Rattle.machine_state.specs.Past.{used}
use Rattle.machine_state.proofs.places.Places.used.Given as goal

-- those that are counted and those still to be counted are all
abbrev pub invariant-loop-i : goal.invariant-loop-i
invariant-loop-i l = record {
  all : l.count + used l.kind (drop l.i l.list) ≡ used l.kind l.list;
  most : l.count ≤ l.i;
}
