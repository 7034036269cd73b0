use Rattle.std.proofs.Common.{◌≡◌, ℕ, ◌+◌, ◌<◌, ◌≤◌, Bool, true, false, not, cond, length, get_or, count_by, refl, sym, ap, ◌∙◌, subst, arith, true≢false}
use Rattle.reaches_back.specs.Edges.{CanReach}
use Rattle.reaches_back.proofs.Marks.{reach-here, reach-trans, reach-marked}
use Rattle.reaches_back.proofs.backwards.reach_back.Goals as goal

smaller : (b : Bool) (new old : ℕ) → new ≤ old → (b ≡ true → new < old) → new + cond b 1 0 < old + cond true 1 0
smaller true new old l m = omega (arith, m refl)
smaller false new old l m = omega arith

pub loop-changed-init : goal.loop-changed-init
loop-changed-init c = record {
  sound = reach-here c.args.width c.args.ends.now c.args.marks.now;
  kept = λ i h. h;
  done = λ e. absurd (true≢false e);
}

pub loop-changed-preserved : goal.loop-changed-preserved
loop-changed-preserved c =
    let inv = c.loop-changed.invariant in
    record {
      sound = λ i h. reach-trans c.args.width c.args.ends.now c.args.marks.now c.loop-changed.marks inv.sound i (c.sweep-changed.ensures.sound i h);
      kept = λ i h. c.sweep-changed.ensures.kept i (inv.kept i h);
      done = λ e i l h. c.sweep-changed.ensures.done e i (omega (arith, l, c.loop-changed.auto.marks)) h;
    }

pub loop-changed-smaller : goal.loop-changed-smaller
loop-changed-smaller c =
    let less = smaller c.sweep-changed.result (count_by not c.sweep-changed.new.marks) (count_by not c.loop-changed.marks) c.sweep-changed.ensures.least c.sweep-changed.ensures.fewer in
    subst (λ b. count_by not c.sweep-changed.new.marks + cond c.sweep-changed.result 1 0 < count_by not c.loop-changed.marks + cond b 1 0) (sym c.loop-changed-test.true) less

pub returns : goal.returns
returns c =
    let inv = c.loop-changed.invariant in
    record {
      marks = λ at l. (inv.sound at, reach-marked c.args.width c.args.ends.now c.args.marks.now c.loop-changed.marks (length c.args.marks.now) c.requires inv.kept (inv.done c.loop-changed-test.false) at l);
    }
