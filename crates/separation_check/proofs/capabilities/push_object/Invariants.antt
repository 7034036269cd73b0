use Rattle.std.proofs.Common.{◌≡◌, ◌+◌, ◌*◌, ◌++◌}
use Rattle.std.specs.Vec.{vec_capacity}
use Rattle.object_store.specs.Places.{reads_in}
use Rattle.separation_policy.specs.Policy.{domain_of}
use Rattle.separation_check.specs.Marks.{marks_below, marks_by}
use Rattle.separation_check.specs.Crossings.{all_below, listed, crossing_by, stored_cap}
use Rattle.separation_check.proofs.capabilities.push_object.Given as goal

abbrev pub invariant-each : goal.invariant-each
invariant-each g l = record {
  found : l.found.items ≡ l.fn.found.items ++ all_below (λ i. listed (crossing_by l.policy l.kind l.n i (stored_cap l.objects l.kind l.n i))) l.i;
  room : vec_capacity l.found ≡ vec_capacity l.fn.found;
  marks : l.marks ≡ marks_below (λ i. marks_by (domain_of l.policy l.kind l.n) (stored_cap l.objects l.kind l.n i)) l.i;
  fetches : l.fetches ≡ l.fn.fetches + reads_in l.kind * l.i;
}
