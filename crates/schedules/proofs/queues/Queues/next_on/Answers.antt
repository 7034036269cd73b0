use Rattle.schedules.specs.Queues.{QueuesValue}
use Rattle.schedules.proofs.Next.{next_there}
use Rattle.schedules.proofs.queues.Queues.next_on.Goals as goal

pub returns-clause-there : goal.returns-clause-there
returns-clause-there c =
    let i = c.self.inside in
    let q : QueuesValue = record { ready = i.ready.items; sleepers = i.sleepers.items; harts = i.harts.items } in
    rw (c.next_of.ensures.value, ← c.self.view_is) (next_there q c.args.hart c.self.invariant (rw (← c.self.view_is) at c.requires))
