use Rattle.std.proofs.Common.{◌≡◌, ℕ, ◌-◌, ◌<◌, ◌≤◌, ◌⊎◌, inl, inr, true, false, not, length, get_or, count_by, refl, sym, ap, ◌∙◌, subst, arith, true≢false, length-set}
use Rattle.std.proofs.lemmas.Bool.{cases_eq}
use Rattle.reaches_back.specs.Edges.{NoneMarked}
use Rattle.reaches_back.proofs.Marks.{fewer-set, sound-set, kept-set}
use Rattle.reaches_back.proofs.backwards.sweep.Goals as goal
use Rattle.reaches_back.proofs.backwards.sweep.Goals.{else-not-marks-at-via-then-not-marks-at+else-leads_to_marked, else-not-marks-at-via-else-not-marks-at}

-- one place more from the end
from-more : (P : ℕ → Type 0) (at : ℕ) → 0 < at → P (at - 1) → ((i : ℕ) → at ≤ i → P i) → (i : ℕ) → at - 1 ≤ i → P i
from-more P at l here rest i m = by (cases_eq i (at - 1))
  where
    by : (i ≡ at - 1) ⊎ (i ≡ at - 1 → ⊥) → P i
    by (inl e) = subst P (sym e) here
    by (inr apart) = rest i (omega (arith, apart))

pub loop-at-preserved : goal.loop-at-preserved
loop-at-preserved c =
    let inv = c.loop-at.invariant in
    let here : get_or c.loop-at.marks (c.loop-at.at - 1) false ≡ false → NoneMarked c.args.width c.args.ends.now c.loop-at.marks (c.loop-at.at - 1) =
    elim c.else-not-marks-at.branch [
      | else-not-marks-at-via-then-not-marks-at+else-leads_to_marked w ↦ λ _. w.leads_to_marked.ensures.none w.if-leads_to_marked.false
      | else-not-marks-at-via-else-not-marks-at w ↦ λ h. absurd (true≢false (sym w.if-not-marks-at.false ∙ h))
    ] in
    record {
      within = omega (arith, inv.within);
      sound = inv.sound;
      kept = inv.kept;
      least = inv.least;
      fewer = inv.fewer;
      done = λ e. from-more (λ i. i < length c.loop-at.marks → get_or c.loop-at.marks i false ≡ false → NoneMarked c.args.width c.args.ends.now c.loop-at.marks i) c.loop-at.at c.loop-at-test.true (λ _. here) (inv.done e);
    }

pub loop-at-preserved-then-leads_to_marked : goal.loop-at-preserved-then-leads_to_marked
loop-at-preserved-then-leads_to_marked c =
    let inv = c.loop-at.invariant in
    let inside : c.loop-at.at - 1 < length c.loop-at.marks = omega (arith, inv.within, c.loop-at-test.true) in
    let fewer = fewer-set c.loop-at.marks (c.loop-at.at - 1) inside c.if-not-marks-at.true in
    record {
      within = omega (arith, inv.within, length-set c.loop-at.marks (c.loop-at.at - 1) true);
      sound = sound-set c.args.width c.args.ends.now c.args.marks.now c.loop-at.marks (c.loop-at.at - 1) inside inv.sound (c.leads_to_marked.ensures.some c.if-leads_to_marked.true);
      kept = λ i h. kept-set c.args.width c.args.ends.now c.args.marks.now c.loop-at.marks (c.loop-at.at - 1) inside i (inv.kept i h);
      least = omega (arith, fewer, inv.least);
      fewer = λ _. omega (arith, fewer, inv.least);
      done = λ e. absurd (true≢false e);
    }

pub returns : goal.returns
returns c =
    let inv = c.loop-at.invariant in
    record {
      sound = inv.sound;
      kept = inv.kept;
      least = inv.least;
      fewer = inv.fewer;
      done = λ e at l h. inv.done e at (omega (arith, c.loop-at-test.false)) (omega (arith, l, c.loop-at.auto.marks)) h;
    }
