use Rattle.std.proofs.Common.{refl}
use Rattle.object_store.proofs.Writes.{put_pc}
use Rattle.machine_state.proofs.Changed.{same_state}
use Rattle.machine_state.proofs.machine.Machine.set_pc.Goals as goal

pub returns-clause-state : goal.returns-clause-state
returns-clause-state g c =
    let i = c.self.inside in
    rw (← c.self.view_is, c.set_pc.ensures.pc, c.process_mut.ensures.value) (same_state _ _ i.queues i.queues i.halted (put_pc i.objects c.args.p c.args.pc) refl)
