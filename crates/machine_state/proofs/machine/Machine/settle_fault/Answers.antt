use Rattle.machine_state.specs.Machine.{MachineValue}
use Rattle.machine_state.proofs.Changed.{leaves_items}
use Rattle.machine_state.proofs.machine.Machine.settle_fault.Goals as goal

pub returns-clause-leaves : goal.returns-clause-leaves
returns-clause-leaves g c =
    let i = c.self.inside in
    let done = c.deliver_fault.ensures in
    let old : MachineValue g.row.T.Denot = record { objects = i.objects; queues = i.queues; halted = i.halted; translator = i.translator } in
    let new : MachineValue g.row.T.Denot = record { objects = c.deliver_fault.new.objects; queues = c.deliver_fault.new.queues; halted = i.halted; translator = i.translator } in
    rw (← c.self.view_is) (leaves_items _ old new done.items done.harts done.stays)
