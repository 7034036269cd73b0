use Rattle.object_store.proofs.Means.{map_of-set_slot}
use Rattle.object_store.proofs.DifferLaws.{DifferIn-slot_meaning}
use Rattle.object_store.proofs.Behind.{NoneAhead-set_slot}
use Rattle.object_store.proofs.objects.Objects.set_gpt_slot.Goals as goal

pub returns-clause-means : goal.returns-clause-means
returns-clause-means c = rw c.put_slot.ensures.after (map_of-set_slot _ _ _ _)

pub returns-clause-differ : goal.returns-clause-differ
returns-clause-differ c = rw (c.put_slot.ensures.item, c.put_slot.ensures.after) (DifferIn-slot_meaning _ _ _ _)

pub returns-clause-none_ahead : goal.returns-clause-none_ahead
returns-clause-none_ahead c = λ behind none. rw c.put_slot.ensures.after (NoneAhead-set_slot _ none _ _ _ behind)
