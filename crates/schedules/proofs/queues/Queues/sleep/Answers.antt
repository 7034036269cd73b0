use Rattle.std.proofs.Common.{◌≡◌, ◌<◌, subst, sym, length}
use Rattle.schedules.specs.Queues.{QueuesValue}
use Rattle.schedules.specs.Standing.{standing}
use Rattle.schedules.proofs.Room.{room_sleepers}
use Rattle.schedules.proofs.Kept.{kept_asleep}
use Rattle.schedules.proofs.Agreement.{agrees-asleep}
use Rattle.schedules.proofs.queues.Queues.sleep.Goals as goal

pub push_at-requires-clause-room : goal.push_at-requires-clause-room
push_at-requires-clause-room c =
    let i = c.self.inside in
    let q : QueuesValue = record { ready = i.ready.items; sleepers = i.sleepers.items; harts = i.harts.items } in
    let There : QueuesValue → Type 0 = λ v. c.args.p < length v.sleepers in
    let On : QueuesValue → Type 0 = λ v. c.args.on < length v.sleepers in
    let Nowhere : QueuesValue → Type 0 = λ v. standing v c.args.p ≡ 0 in
    room_sleepers q c.args.on c.args.p c.self.invariant (subst On (sym c.self.view_is) c.requires.on) (subst There (sym c.self.view_is) c.requires.there) (subst Nowhere (sym c.self.view_is) c.requires.nowhere)

pub invariant_of-self : goal.invariant_of-self
invariant_of-self c =
    let i = c.self.inside in
    let q : QueuesValue = record { ready = i.ready.items; sleepers = i.sleepers.items; harts = i.harts.items } in
    let There : QueuesValue → Type 0 = λ v. c.args.p < length v.sleepers in
    let On : QueuesValue → Type 0 = λ v. c.args.on < length v.sleepers in
    let Nowhere : QueuesValue → Type 0 = λ v. standing v c.args.p ≡ 0 in
    rw c.push_at.ensures (kept_asleep q c.args.p c.args.on c.self.invariant (subst On (sym c.self.view_is) c.requires.on) (subst There (sym c.self.view_is) c.requires.there) (subst Nowhere (sym c.self.view_is) c.requires.nowhere))

pub returns-clause-agrees : goal.returns-clause-agrees
returns-clause-agrees c =
    let i = c.self.inside in
    let q : QueuesValue = record { ready = i.ready.items; sleepers = i.sleepers.items; harts = i.harts.items } in
    let On : QueuesValue → Type 0 = λ v. c.args.on < length v.sleepers in
    λ processes but runs_now. rw c.push_at.ensures (agrees-asleep processes q c.args.p c.args.on (subst On (sym c.self.view_is) c.requires.on) (rw c.self.view_is but) runs_now)
