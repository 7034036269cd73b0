use Rattle.std.proofs.Common.{◌≡◌, true, false, ◌++◌, replicate, set, sym, ap, ◌∙◌, subst}
use Rattle.fair_rounds.specs.Table.{is_marked}
use Rattle.fair_rounds.specs.Search.{IsWayTo}
use Rattle.fair_rounds.proofs.Looping.{one-alone}
use Rattle.fair_rounds.proofs.loops.go_back.Goals as goal

pub returns : goal.returns
returns c =
    let told = subst (IsWayTo c.args.width c.args.ends.now c.args.from c.deref.result.now) c.in-Some.is c.in_ok-way.ensures in
    let only : c.deref.result.now ≡ set (replicate c.args.nodes false) c.args.to true = c.deref.ensures.value ∙ c.in_ok-marks.ensures in
    record {
      path = c.in-Some.way.choices.items;
      added = c.in_ok-extend_from_slice.ensures.items ∙ ap (λ p. c.args.taken.items ++ p) c.deref-2.ensures.value;
      choices = told.0;
      leads = told.1 ∙ one-alone c.args.nodes c.args.to c.in-Some.way.end (ap (λ ms. is_marked ms c.in-Some.way.end) (sym only) ∙ told.2);
    }
