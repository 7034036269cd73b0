use Rattle.std.proofs.Common.{rules, sym, arith}
use Rattle.schedules.proofs.Nowhere.{without_absent_all}
use Rattle.schedules.proofs.queues.take_away.Goals as goal

pub returns-then-take_off-clause-ready : goal.returns-then-take_off-clause-ready
returns-then-take_off-clause-ready c = let there = c.take_off.ensures.there.0 (search rules) in sym (without_absent_all c.args.p c.args.ready.now.items (omega (arith, c.requires, there)))

pub returns-then-take_off-clause-sleepers : goal.returns-then-take_off-clause-sleepers
returns-then-take_off-clause-sleepers c = let there = c.take_off.ensures.there.0 (search rules) in sym (without_absent_all c.args.p c.args.sleepers.now.items (omega (arith, c.requires, there)))

pub returns-then-take_out-clause-sleepers : goal.returns-then-take_out-clause-sleepers
returns-then-take_out-clause-sleepers c = let there = c.take_out.ensures.there.0 (search rules) in sym (without_absent_all c.args.p c.args.sleepers.now.items (omega (arith, c.requires, there)))
