use Rattle.object_store.proofs.Restored.{DifferIn-with_object}
use Rattle.object_store.proofs.objects.Objects.copy_object.Goals as goal

pub returns-clause-differ : goal.returns-clause-differ
returns-clause-differ g c = rw c.put_object.ensures.after (DifferIn-with_object c.args.self.now c.args.from.now c.args.kind c.args.to c.args.number c.requires.to)
