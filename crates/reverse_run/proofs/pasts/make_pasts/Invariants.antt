use Rattle.std.proofs.Common.{◌≡◌, vec_len}
use Rattle.std.specs.List.{All}
use Rattle.std.specs.Vec.{vec_capacity}
use Rattle.machine_state.specs.Past.{IsFor}
use Rattle.reverse_run.specs.Remembered.{MementoValue}
use Rattle.reverse_run.proofs.pasts.make_pasts.Given as goal

abbrev pub invariant-each : goal.invariant-each
invariant-each l = record {
  number : vec_len l.pasts ≡ l.n;
  room : vec_capacity l.pasts ≡ l.depth;
  sizes : All (λ (kept : MementoValue). IsFor kept.past l.sizes) l.pasts.items;
}
