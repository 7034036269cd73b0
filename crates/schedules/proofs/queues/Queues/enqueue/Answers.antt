use Rattle.std.proofs.Common.{◌≡◌, ◌<◌, ◌+◌, ◌==◌, cond, subst, sym, arith, length}
use Rattle.schedules.specs.Queues.{QueuesValue, enqueued}
use Rattle.schedules.specs.Standing.{standing}
use Rattle.schedules.proofs.Standing.{standing-enqueued}
use Rattle.schedules.proofs.Room.{room_ready}
use Rattle.schedules.proofs.Kept.{kept_enqueued}
use Rattle.schedules.proofs.queues.Queues.enqueue.Goals as goal

pub push_at-requires-clause-room : goal.push_at-requires-clause-room
push_at-requires-clause-room c =
    let i = c.self.inside in
    let q : QueuesValue = record { ready = i.ready.items; sleepers = i.sleepers.items; harts = i.harts.items } in
    let There : QueuesValue → Type 0 = λ v. c.args.p < length v.sleepers in
    let Nowhere : QueuesValue → Type 0 = λ v. standing v c.args.p ≡ 0 in
    room_ready q c.args.priority c.args.p c.self.invariant (omega (arith, c.self.invariant.ready, c.requires.priority)) (subst There (sym c.self.view_is) c.requires.there) (subst Nowhere (sym c.self.view_is) c.requires.nowhere)

pub invariant_of-self : goal.invariant_of-self
invariant_of-self c =
    let i = c.self.inside in
    let q : QueuesValue = record { ready = i.ready.items; sleepers = i.sleepers.items; harts = i.harts.items } in
    let There : QueuesValue → Type 0 = λ v. c.args.p < length v.sleepers in
    let Nowhere : QueuesValue → Type 0 = λ v. standing v c.args.p ≡ 0 in
    rw c.push_at.ensures (kept_enqueued q c.args.priority c.args.p c.self.invariant c.requires.priority (subst There (sym c.self.view_is) c.requires.there) (subst Nowhere (sym c.self.view_is) c.requires.nowhere))

pub returns-clause-standing : goal.returns-clause-standing
returns-clause-standing c =
    let i = c.self.inside in
    let q : QueuesValue = record { ready = i.ready.items; sleepers = i.sleepers.items; harts = i.harts.items } in
    λ x. let S : QueuesValue → Type 0 = λ v. standing (enqueued q c.args.priority c.args.p) x ≡ standing v x + cond (c.args.p == x) 1 0 in
    rw c.push_at.ensures (subst S c.self.view_is (standing-enqueued q c.args.priority c.args.p x (omega (arith, c.self.invariant.ready, c.requires.priority))))
