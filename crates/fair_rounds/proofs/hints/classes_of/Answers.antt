use Rattle.std.proofs.Common.{◌≡◌, length, sym, ap, ◌∙◌, subst}
use Rattle.fair_rounds.specs.Table.{IsTable}
use Rattle.fair_rounds.proofs.Places.{came-back}
use Rattle.fair_rounds.proofs.hints.classes_of.Goals as goal

pub gather_all-requires-clause-table : goal.gather_all-requires-clause-table
gather_all-requires-clause-table c = subst (IsTable c.args.width c.args.ends.now) (sym (c.deref_mut.ensures.len ∙ c.in_ok-marks.ensures.len)) c.requires

pub returns : goal.returns
returns c =
    let classes = c.in_ok-classes.classes in
    let now = c.gather_all.new.classes in
    let long : length now ≡ classes.len = c.gather_all.auto.classes ∙ c.deref_mut-2.ensures.len in
    ap length (came-back classes.len now classes.items long) ∙ long ∙ c.in_ok-classes.ensures.len
