use Rattle.object_store.proofs.Writes.{slot_means}
use Rattle.machine_state.proofs.machine.Machine.space.Goals as goal

pub returns : goal.returns
returns g c =
    rw (← c.self.view_is, c.slot.ensures.value, c.process.ensures.value) (slot_means c.self.inside.objects c.args.p 0)
