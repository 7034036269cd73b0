use Rattle.std.proofs.Common.{◌≡◌, ◌+◌, ◌*◌, false}
use Rattle.object_store.specs.Places.{object_reads}
use Rattle.separation_check.specs.Crossings.{all_below, object_crossings, stored_cap}
use Rattle.questions.specs.Atom.{is_any}
use Rattle.questions.proofs.crossing.kind_crosses.Given as goal

abbrev pub invariant-each : goal.invariant-each
invariant-each g l = record {
  none : is_any (all_below (object_crossings l.policy (stored_cap l.objects) l.kind) l.n) ≡ false;
  fetches : l.fetches ≡ l.fn.fetches + object_reads l.kind * l.n;
}
