use Rattle.object_store.proofs.DifferLaws.{DifferIn-emptied}
use Rattle.object_store.proofs.Destroyed.{state_map-emptied, NoneAhead-emptied}
use Rattle.object_store.proofs.objects.Objects.destroy.Goals as goal

pub returns-clause-means : goal.returns-clause-means
returns-clause-means c = rw c.renew.ensures (state_map-emptied _ _ _ c.requires.there c.requires.none_ahead)

pub returns-clause-differ : goal.returns-clause-differ
returns-clause-differ c = rw c.renew.ensures (DifferIn-emptied _ _ _)

pub returns-clause-none_ahead : goal.returns-clause-none_ahead
returns-clause-none_ahead c = rw c.renew.ensures (NoneAhead-emptied _ _ _ c.requires.none_ahead)
