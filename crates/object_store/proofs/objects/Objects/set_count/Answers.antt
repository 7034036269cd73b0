use Rattle.object_store.proofs.DifferLaws.{DifferIn-set_count}
use Rattle.object_store.proofs.objects.Objects.set_count.Goals as goal

pub returns-clause-differ : goal.returns-clause-differ
returns-clause-differ c = rw c.put_count.ensures (DifferIn-set_count _ _ _ _)
