use Rattle.std.proofs.Common.{rules, ◌≡◌, ap, sym, subst, Some}
use Rattle.schedules.specs.Queues.{QueuesValue, hart_of}
use Rattle.schedules.specs.declared.spot.Spot.TheVariants.{Hart}
use Rattle.schedules.proofs.OnHart.{same_hart}
use Rattle.schedules.proofs.queues.Queues.place.Goals as goal

pub returns-in-Some-clause-on_hart : goal.returns-in-Some-clause-on_hart
returns-in-Some-clause-on_hart c =
    let i = c.self.inside in
    let q : QueuesValue = record { ready = i.ready.items; sleepers = i.sleepers.items; harts = i.harts.items } in
    λ hart e. let On : QueuesValue → Type 0 = λ v. hart_of v hart ≡ Some c.args.p in
    let here : hart_of q c.in-Some.hart ≡ Some c.args.p = rw (← c.deref-2.ensures.value) c.in-Some.ensures.stands in
    let there : hart_of q hart ≡ Some c.args.p = subst On (sym c.self.view_is) e in
    ap (λ n. Hart n) (same_hart q c.args.p c.in-Some.hart hart c.self.invariant here there)

pub returns-then-is_on-clause-on_hart : goal.returns-then-is_on-clause-on_hart
returns-then-is_on-clause-on_hart c =
    let i = c.self.inside in
    let q : QueuesValue = record { ready = i.ready.items; sleepers = i.sleepers.items; harts = i.harts.items } in
    λ hart e. let On : QueuesValue → Type 0 = λ v. hart_of v hart ≡ Some c.args.p in
    let here : hart_of q i.last ≡ Some c.args.p = rw (← c.deref.ensures.value) (c.is_on.ensures.0 (search rules)) in
    let there : hart_of q hart ≡ Some c.args.p = subst On (sym c.self.view_is) e in
    ap (λ n. Hart n) (same_hart q c.args.p i.last hart c.self.invariant here there)
