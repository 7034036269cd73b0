use Rattle.std.proofs.Common.{sym, ◌∙◌, subst}
use Rattle.fair_rounds.specs.Table.{IsTable}
use Rattle.fair_rounds.proofs.hints.leaving_order.Goals as goal

pub visit_all-requires : goal.visit_all-requires
visit_all-requires c = subst (IsTable c.args.width c.args.ends.now) (sym (c.deref_mut.ensures.len ∙ c.in_ok-seen.ensures.len)) c.requires
