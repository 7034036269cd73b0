use Rattle.std.proofs.Common.{◌≡◌, ℕ, ◌+◌, ◌*◌, ◌<◌, length, ap, ◌∙◌, arith}
use Rattle.reaches_back.specs.Edges.{end_of}
use Rattle.fair_rounds.specs.Table.{is_marked}
use Rattle.fair_rounds.specs.Classes.{class_of}
use Rattle.fair_rounds.proofs.Edges.{place-within}
use Rattle.fair_rounds.proofs.Falling.{choice-marked, choice-left}
use Rattle.fair_rounds.proofs.Flooding.{kept-more}
use Rattle.fair_rounds.proofs.classes.mark_inner.Goals as goal
use Rattle.fair_rounds.proofs.classes.mark_inner.Goals.{then-classes-ends, else-classes-ends}

pub loop-choice-preserved : goal.loop-choice-preserved
loop-choice-preserved c =
    let l = c.loop-choice in
    let classes = c.args.classes.now in
    let class : ℕ = class_of classes c.args.at in
    let own : ℕ → Type 0 = λ k. class_of classes (end_of c.args.width c.args.ends.now c.args.at k) ≡ class in
    let place : class * c.args.width + l.choice < length l.inner =
    omega (arith, place-within (length classes) c.args.width class l.choice (c.requires.falling.few c.args.at c.requires.at) c.loop-choice-test.true, c.requires.inner, l.auto.inner) in
    record {
      kept = elim c.if-classes-ends.branch [
        | then-classes-ends w ↦ λ i h. ap (λ ms. is_marked ms i) w.inner-is ∙ kept-more l.inner (class * c.args.width + l.choice) place i (l.invariant.kept i h)
        | else-classes-ends w ↦ λ i h. ap (λ ms. is_marked ms i) w.inner-is ∙ l.invariant.kept i h
      ];
      inner = elim c.if-classes-ends.branch [
        | then-classes-ends w ↦ λ k m h. ap (λ ms. is_marked ms (class * c.args.width + k)) w.inner-is ∙ choice-marked own class c.args.width l.choice l.inner l.invariant.inner place k m h
        | else-classes-ends w ↦ λ k m h. ap (λ ms. is_marked ms (class * c.args.width + k)) w.inner-is ∙ choice-left own class c.args.width l.choice l.inner l.invariant.inner w.if-classes-ends.false k m h
      ];
    }
