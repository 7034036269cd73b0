use Rattle.std.proofs.Common.{◌≡◌, ◌+◌, ◌-◌, ◌*◌}
use Rattle.confine_check.specs.Sides.{cut_of}
use Rattle.object_store.specs.Places.{places_in, reads_in}
use Rattle.confine_check.specs.Breach.{first_from, breach_at, breach_of_object}
use Rattle.confine_check.proofs.breach.breach_of_object.Given as goal

abbrev pub invariant-each : goal.invariant-each
invariant-each g l = record {
  rest : breach_of_object (cut_of l.cut) l.objects l.kind l.n ≡ first_from (breach_at (cut_of l.cut) l.objects l.kind l.n) l.i (places_in l.kind - l.i);
  fetches : l.fetches ≡ l.fn.fetches + reads_in l.kind * l.i;
}
