use Rattle.schedules.specs.Queues.{QueuesValue}
use Rattle.schedules.proofs.OnHart.{hart_there}
use Rattle.schedules.proofs.queues.Queues.on_hart.Goals as goal

pub returns-clause-there : goal.returns-clause-there
returns-clause-there c =
    let i = c.self.inside in
    let q : QueuesValue = record { ready = i.ready.items; sleepers = i.sleepers.items; harts = i.harts.items } in
    rw (c.process_on.ensures, ← c.self.view_is) (hart_there q c.args.hart c.self.invariant)
