use Rattle.object_store.proofs.Means.{map_of-set_header}
use Rattle.object_store.proofs.DifferLaws.{DifferIn-header_meaning}
use Rattle.object_store.proofs.Behind.{NoneAhead-set_header}
use Rattle.object_store.proofs.objects.Objects.set_gpt_header.Goals as goal

pub returns-clause-means : goal.returns-clause-means
returns-clause-means c = rw c.put_header.ensures.after (map_of-set_header _ _ _)

pub returns-clause-differ : goal.returns-clause-differ
returns-clause-differ c = rw (c.put_header.ensures.item, c.put_header.ensures.after) (DifferIn-header_meaning _ _ _)

pub returns-clause-none_ahead : goal.returns-clause-none_ahead
returns-clause-none_ahead c = λ none. rw c.put_header.ensures.after (NoneAhead-set_header _ none _ _)
