use Rattle.std.proofs.Common.{◌<◌, ℕ, sym, subst}
use Rattle.object_store.specs.Store.{Store, size_of}
use Rattle.object_store.proofs.Same.{even_store}
use Rattle.machine_state.proofs.Saved.{place_of, used_push, placed_push, holds_push}
use Rattle.machine_state.proofs.past.Past.keep.Goals as goal

pub invariant_of-self : goal.invariant_of-self
invariant_of-self g c =
    let i = c.self.inside in
    let next = rw (← c.self.view_is) at c.next_place-place.ensures in
    let Within : ℕ → Type 0 = λ n. n < size_of i.copies.items c.args.kind in
    let there = subst Within (sym next) (rw (← c.self.view_is) at c.requires.room) in
    rw c.push.ensures (placed_push i.copies c.copy_object-item.new.self i.places c.args.kind c.args.number c.next_place-place.result c.copy_object-item.ensures.sizes next there c.self.invariant)

pub returns-clause-holds : goal.returns-clause-holds
returns-clause-holds g c =
    let i = c.self.inside in
    let next = rw (← c.self.view_is) at c.next_place-place.ensures in
    let Within : ℕ → Type 0 = λ n. n < size_of i.copies.items c.args.kind in
    let there = subst Within (sym next) (rw (← c.self.view_is) at c.requires.room) in
    let holds = rw (← c.self.view_is) at c.requires.holds in
    record { each = rw (c.push.ensures, c.copy_object-item.ensures.after, c.objects-objects.ensures) (holds_push i.copies c.args.machine.now.objects i.places c.args.kind c.args.number c.next_place-place.result (even_store i.copies c.sizes-room.ensures.sized) c.self.invariant next there holds.each) }

pub returns-clause-used : goal.returns-clause-used
returns-clause-used g c = λ k. rw (← c.self.view_is, c.push.ensures) (used_push k c.self.inside.places (place_of c.args.kind c.args.number c.next_place-place.result))
