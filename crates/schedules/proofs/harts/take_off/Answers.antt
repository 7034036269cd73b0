use Rattle.std.proofs.Common.{sym, refl}
use Rattle.schedules.proofs.Nowhere.{hart_without_one, hart_without_absent_all}
use Rattle.schedules.proofs.OnHart.{on_hart}
use Rattle.schedules.proofs.harts.take_off.Goals as goal

pub returns-in_default-clause-harts : goal.returns-in_default-clause-harts
returns-in_default-clause-harts c = sym (hart_without_absent_all c.args.p c.args.harts.now.items (rw (← c.deref.ensures.value) (c.in_default.ensures.none refl)))

pub returns-clause-harts : goal.returns-clause-harts
returns-clause-harts c = hart_without_one c.args.p c.in-Some.i c.args.harts.now.items (rw (← c.deref.ensures.value) c.in-Some.ensures.stands) c.requires

pub returns-clause-there : goal.returns-clause-there
returns-clause-there c = (λ _. on_hart c.args.p c.in-Some.i c.args.harts.now.items (rw (← c.deref.ensures.value) c.in-Some.ensures.stands), λ _. refl)
