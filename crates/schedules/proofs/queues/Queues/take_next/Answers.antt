use Rattle.std.proofs.Common.{◌≡◌, ◌<◌, subst, sym, length, None}
use Rattle.schedules.specs.Queues.{QueuesValue, hart_of}
use Rattle.schedules.proofs.Kept.{kept_taken}
use Rattle.schedules.proofs.Agreement.{agrees-taken}
use Rattle.schedules.proofs.queues.Queues.take_next.Goals as goal

pub invariant_of-self : goal.invariant_of-self
invariant_of-self c =
    let i = c.self.inside in
    let q : QueuesValue = record { ready = i.ready.items; sleepers = i.sleepers.items; harts = i.harts.items } in
    let Within : QueuesValue → Type 0 = λ v. c.args.hart < length v.harts in
    let empty : hart_of q c.args.hart ≡ None = subst (λ v. hart_of v c.args.hart ≡ None) (sym c.self.view_is) c.requires.free in
    rw (c.pop_at-next.ensures.rest, c.pop_at-next.ensures.first) (kept_taken q c.args.hart c.in-Some.priority c.self.invariant (subst Within (sym c.self.view_is) c.requires.there) empty c.in-Some.ensures.within)

pub returns-clause-agrees : goal.returns-clause-agrees
returns-clause-agrees c =
    let i = c.self.inside in
    let q : QueuesValue = record { ready = i.ready.items; sleepers = i.sleepers.items; harts = i.harts.items } in
    let Within : QueuesValue → Type 0 = λ v. c.args.hart < length v.harts in
    let empty : hart_of q c.args.hart ≡ None = subst (λ v. hart_of v c.args.hart ≡ None) (sym c.self.view_is) c.requires.free in
    λ processes agrees. rw (c.pop_at-next.ensures.rest, c.pop_at-next.ensures.first) (agrees-taken processes q c.args.hart c.in-Some.priority c.self.invariant (subst Within (sym c.self.view_is) c.requires.there) empty c.in-Some.ensures.within (rw c.self.view_is agrees))
