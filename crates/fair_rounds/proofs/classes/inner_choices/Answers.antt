use Rattle.std.proofs.Common.{◌≡◌, length, sym, ap, ◌∙◌, subst, arith}
use Rattle.fair_rounds.specs.Table.{is_marked}
use Rattle.fair_rounds.specs.Classes.{IsInnerFrom}
use Rattle.fair_rounds.proofs.Places.{came-back}
use Rattle.fair_rounds.proofs.Falling.{inner-more}
use Rattle.fair_rounds.proofs.classes.inner_choices.Goals as goal

pub loop-at-preserved : goal.loop-at-preserved
loop-at-preserved c =
    let l = c.loop-at in
    let now = c.mark_inner.new.inner in
    let is : length now ≡ l.inner.len = c.mark_inner.auto.inner ∙ c.deref_mut.ensures.len in
    let same = came-back l.inner.len now l.inner.items is in
    let was = c.deref_mut.ensures.value in
    record {
      many = ap length same ∙ c.mark_inner.auto.inner ∙ ap length was ∙ l.invariant.many;
      each = λ i m. subst (IsInnerFrom c.args.width c.args.ends.now c.args.classes.now i) (sym same)
          (inner-more c.args.width c.args.ends.now c.args.classes.now l.inner.items now l.at (λ j h. c.mark_inner.ensures.kept j (ap (λ ms. is_marked ms j) was ∙ h)) l.invariant.each c.mark_inner.ensures.inner i m);
    }

pub returns : goal.returns
returns c = record {
  many = c.loop-at.invariant.many ∙ c.requires.edges.many;
  each = λ i m. c.loop-at.invariant.each i (omega (arith, m, c.loop-at-test.false));
}
