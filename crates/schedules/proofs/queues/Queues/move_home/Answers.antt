use Rattle.std.proofs.Common.{◌≡◌, ℕ, ◌<◌, length, Some, subst, sym, ap, ◌∙◌}
use Rattle.std.proofs.lemmas.List.FromFn.{length-map-range_with_len}
use Rattle.schedules.specs.Queues.{QueuesValue, hart_of}
use Rattle.schedules.specs.Home.{own_hart, own_harts}
use Rattle.schedules.proofs.Home.{kept_home, agrees-home}
use Rattle.schedules.proofs.queues.Queues.move_home.Goals as goal

pub invariant_of-self : goal.invariant_of-self
invariant_of-self c =
    let i = c.self.inside in
    let q : QueuesValue = record { ready = i.ready.items; sleepers = i.sleepers.items; harts = i.harts.items } in
    let Each : QueuesValue → Type 0 = λ v. (hart p : ℕ) → hart_of v hart ≡ Some p → p < c.args.many in
    let is = c.in_ok-harts.ensures ∙ ap (λ h. own_harts h c.args.many) c.deref.ensures.value in
    rw is (kept_home q c.args.many c.self.invariant c.requires.most (subst Each (sym c.self.view_is) c.requires.each))

pub returns-clause-harts : goal.returns-clause-harts
returns-clause-harts c = ap length (c.in_ok-harts.ensures) ∙ length-map-range_with_len (own_hart c.deref.result.now) 0 c.args.many

pub returns-clause-agrees : goal.returns-clause-agrees
returns-clause-agrees c =
    let i = c.self.inside in
    let q : QueuesValue = record { ready = i.ready.items; sleepers = i.sleepers.items; harts = i.harts.items } in
    let Each : QueuesValue → Type 0 = λ v. (hart p : ℕ) → hart_of v hart ≡ Some p → p < c.args.many in
    let is = c.in_ok-harts.ensures ∙ ap (λ h. own_harts h c.args.many) c.deref.ensures.value in
    λ processes agrees. rw is
    (agrees-home processes q c.args.many c.self.invariant (subst Each (sym c.self.view_is) c.requires.each) (rw c.self.view_is agrees))
