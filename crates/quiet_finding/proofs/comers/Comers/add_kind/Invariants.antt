use Rattle.std.proofs.Common.{◌≡◌, ◌+◌, ◌*◌}
use Rattle.object_store.specs.Meaning.{state_map}
use Rattle.object_store.specs.Places.{object_reads}
use Rattle.quiet_finding.specs.Passing.{IsAfter, by_objects, in_objects}
use Rattle.quiet_finding.proofs.comers.Comers.add_kind.Given as goal

abbrev pub invariant-each : goal.invariant-each
invariant-each g l = record {
  after : IsAfter (by_objects (state_map l.objects) l.last l.kind l.n) (in_objects (state_map l.objects) l.kind l.n) l.fn.self l.self;
  fetches : l.fetches ≡ l.fn.fetches + object_reads l.kind * l.n;
}
