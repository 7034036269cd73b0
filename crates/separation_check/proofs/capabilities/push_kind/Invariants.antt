use Rattle.std.proofs.Common.{◌≡◌, ◌+◌, ◌*◌, ◌++◌}
use Rattle.std.specs.Vec.{vec_capacity}
use Rattle.object_store.specs.Places.{object_reads}
use Rattle.separation_check.specs.Marks.{marks_below, object_marks}
use Rattle.separation_check.specs.Crossings.{all_below, object_crossings, stored_cap}
use Rattle.separation_check.proofs.capabilities.push_kind.Given as goal

abbrev pub invariant-each : goal.invariant-each
invariant-each g l = record {
  found : l.found.items ≡ l.fn.found.items ++ all_below (object_crossings l.policy (stored_cap l.objects) l.kind) l.n;
  room : vec_capacity l.found ≡ vec_capacity l.fn.found;
  marks : l.marks ≡ marks_below (object_marks l.policy (stored_cap l.objects) l.kind) l.n;
  fetches : l.fetches ≡ l.fn.fetches + object_reads l.kind * l.n;
}
