use Rattle.std.proofs.Common.{refl}
use Rattle.object_store.proofs.DifferLaws.{DifferIn-symmetric, DifferIn-slot_meaning, DifferIn-header_meaning, DifferIn-set_count, DifferIn-emptied}
use Rattle.object_store.proofs.laws.difference_laws.Goals as goal

pub returns : goal.returns
returns c = record {
  symmetric = DifferIn-symmetric;
  slot = DifferIn-slot_meaning;
  header = DifferIn-header_meaning;
  count = DifferIn-set_count;
  destruction = DifferIn-emptied;
  page = λ s n page. refl;
  cappage = λ s n page. refl;
  process = λ s n process. refl;
  endpoint = λ s n endpoint. refl;
}
