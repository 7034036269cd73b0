use Rattle.std.proofs.Common.{sym, refl}
use Rattle.schedules.proofs.Nowhere.{without_absent_all}
use Rattle.schedules.proofs.lists.take_out.Goals as goal

pub returns-in_default-clause-lists : goal.returns-in_default-clause-lists
returns-in_default-clause-lists c = sym (without_absent_all c.args.p c.args.lists.now.items (rw (← c.deref.ensures.value) (c.in_default.ensures.none refl)))
