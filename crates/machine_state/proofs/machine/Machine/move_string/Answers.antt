use Rattle.machine_state.proofs.Moved.{kept_moved, copied_processes}
use Rattle.machine_state.proofs.machine.Machine.move_string.Goals as goal

pub invariant_of-self : goal.invariant_of-self
invariant_of-self g c =
    let i = c.self.inside in
    let done = c.copy.ensures in
    let is = c.self.invariant in
    (rw done.items is.0, rw done.harts is.1, kept_moved i.objects c.copy.new.objects i.queues c.args.from.now c.args.to.now done.after done.items done.harts (done.none_ahead is.2.behind) is.2)

pub returns-clause-processes : goal.returns-clause-processes
returns-clause-processes g c =
    rw (← c.self.view_is) (copied_processes c.self.inside.objects c.copy.new.objects c.args.from.now c.args.to.now c.copy.ensures.after)
