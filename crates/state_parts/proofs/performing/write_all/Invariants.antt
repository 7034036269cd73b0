use Rattle.std.proofs.Common.{◌≡◌, take, vec_len}
use Rattle.std.specs.Vec.{vec_capacity}
use Rattle.state_parts.proofs.performing.write_all.Given as goal

-- those so far are marked, and there is room for the rest
abbrev pub invariant-each : goal.invariant-each
invariant-each l = record {
  items : l.marked.items ≡ take l.i l.names;
  number : vec_len l.marked ≡ l.i;
  room : vec_capacity l.marked ≡ vec_capacity l.fn.marked;
}
