use Rattle.std.proofs.Common.{sym, subst}
use Rattle.fair_rounds.specs.Table.{IsTable}
use Rattle.fair_rounds.proofs.hints.visit_all.Goals as goal

pub visit-requires-clause-table : goal.visit-requires-clause-table
visit-requires-clause-table c = subst (IsTable c.args.width c.args.ends.now) (sym c.loop-root.auto.seen) c.requires
