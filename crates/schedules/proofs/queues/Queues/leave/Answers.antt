use Rattle.schedules.specs.Queues.{QueuesValue}
use Rattle.schedules.proofs.Kept.{kept_left}
use Rattle.schedules.proofs.Agreement.{agrees-left}
use Rattle.schedules.proofs.Standing.{standing-left}
use Rattle.schedules.proofs.queues.Queues.leave.Goals as goal

pub invariant_of-self : goal.invariant_of-self
invariant_of-self c =
    let i = c.self.inside in
    let q : QueuesValue = record { ready = i.ready.items; sleepers = i.sleepers.items; harts = i.harts.items } in
    rw (c.take_away.ensures.ready, c.take_away.ensures.sleepers, c.take_away.ensures.harts) (kept_left q c.args.p c.self.invariant)

pub returns-clause-agrees : goal.returns-clause-agrees
returns-clause-agrees c =
    let i = c.self.inside in
    let q : QueuesValue = record { ready = i.ready.items; sleepers = i.sleepers.items; harts = i.harts.items } in
    λ processes agrees. rw (c.take_away.ensures.ready, c.take_away.ensures.sleepers, c.take_away.ensures.harts) (agrees-left processes q c.args.p (rw c.self.view_is agrees))

pub returns-clause-nowhere : goal.returns-clause-nowhere
returns-clause-nowhere c =
    let i = c.self.inside in
    let q : QueuesValue = record { ready = i.ready.items; sleepers = i.sleepers.items; harts = i.harts.items } in
    rw (c.take_away.ensures.ready, c.take_away.ensures.sleepers, c.take_away.ensures.harts) (standing-left q c.args.p)
