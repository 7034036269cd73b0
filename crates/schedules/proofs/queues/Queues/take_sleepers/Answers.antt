use Rattle.std.proofs.Common.{◌<◌, ◌≤◌, subst, sym, length, arith}
use Rattle.schedules.specs.Queues.{QueuesValue}
use Rattle.std.proofs.Math.ListN.{length-set}
use Rattle.schedules.proofs.Kept.{kept_unslept, standing-unslept}
use Rattle.schedules.proofs.queues.Queues.take_sleepers.Goals as goal

pub invariant_of-self : goal.invariant_of-self
invariant_of-self c =
    let i = c.self.inside in
    let q : QueuesValue = record { ready = i.ready.items; sleepers = i.sleepers.items; harts = i.harts.items } in
    let On : QueuesValue → Type 0 = λ v. c.args.on < length v.sleepers in
    rw c.empty_at.ensures.after (kept_unslept q c.args.on c.self.invariant (subst On (sym c.self.view_is) c.requires))

pub returns-clause-apart : goal.returns-clause-apart
returns-clause-apart c =
    let i = c.self.inside in
    let q : QueuesValue = record { ready = i.ready.items; sleepers = i.sleepers.items; harts = i.harts.items } in
    let On : QueuesValue → Type 0 = λ v. c.args.on < length v.sleepers in
    let within = subst On (sym c.self.view_is) c.requires in
    λ x. rw (c.empty_at.ensures.list, c.empty_at.ensures.after) (let split = standing-unslept q c.args.on x within in omega (arith, split, c.self.invariant.once x))

pub returns-clause-known : goal.returns-clause-known
returns-clause-known c =
    let i = c.self.inside in
    let q : QueuesValue = record { ready = i.ready.items; sleepers = i.sleepers.items; harts = i.harts.items } in
    let On : QueuesValue → Type 0 = λ v. c.args.on < length v.sleepers in
    let within = subst On (sym c.self.view_is) c.requires in
    λ x h. let h' : length q.sleepers ≤ x = rw (c.empty_at.ensures.after, length-set) at h in
    rw c.empty_at.ensures.list (let split = standing-unslept q c.args.on x within in omega (arith, split, c.self.invariant.known x h'))
