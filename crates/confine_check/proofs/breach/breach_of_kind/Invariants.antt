use Rattle.std.proofs.Common.{◌≡◌, ◌+◌, ◌-◌, ◌*◌}
use Rattle.object_store.specs.Store.{size_of}
use Rattle.confine_check.specs.Sides.{cut_of}
use Rattle.object_store.specs.Places.{object_reads}
use Rattle.confine_check.specs.Breach.{first_from, breach_of_object, breach_of_kind}
use Rattle.confine_check.proofs.breach.breach_of_kind.Given as goal

abbrev pub invariant-each : goal.invariant-each
invariant-each g l = record {
  rest : breach_of_kind (cut_of l.cut) l.objects l.kind ≡ first_from (breach_of_object (cut_of l.cut) l.objects l.kind) l.n (size_of l.objects.items l.kind - l.n);
  fetches : l.fetches ≡ l.fn.fetches + object_reads l.kind * l.n;
}
