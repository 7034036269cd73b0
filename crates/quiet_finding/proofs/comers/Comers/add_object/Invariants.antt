use Rattle.std.proofs.Common.{◌≡◌, ◌+◌, ◌*◌}
use Rattle.object_store.specs.Meaning.{state_map}
use Rattle.object_store.specs.Places.{reads_in}
use Rattle.quiet_finding.specs.Passing.{IsAfter, by_places, in_places}
use Rattle.quiet_finding.proofs.comers.Comers.add_object.Given as goal

abbrev pub invariant-each : goal.invariant-each
invariant-each g l = record {
  after : IsAfter (by_places (state_map l.objects) l.by l.kind l.n l.i) (in_places (state_map l.objects) l.kind l.n l.i) l.fn.self l.self;
  fetches : l.fetches ≡ l.fn.fetches + reads_in l.kind * l.i;
}
