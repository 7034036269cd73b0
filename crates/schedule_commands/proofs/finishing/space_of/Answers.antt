use Rattle.object_store.proofs.Writes.{slot_means}
use Rattle.schedule_commands.proofs.finishing.space_of.Goals as goal

pub returns : goal.returns
returns g c = rw (c.slot.ensures.value, c.process.ensures.value, c.objects.ensures) (slot_means c.args.machine.now.objects c.args.process 0)
