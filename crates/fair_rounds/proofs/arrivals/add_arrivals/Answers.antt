use Rattle.std.proofs.Common.{◌≡◌, ℕ, ◌-◌, ◌/◌, ◌%◌, [], ◌∷◌, ◌++◌, get_or, sym, ap, ◌∙◌, subst}
use Rattle.reaches_back.specs.Edges.{end_of}
use Rattle.fair_rounds.proofs.Flooding.{IsFlooding, flooding-more, reaches-edge, edge-place, edge-choice}
use Rattle.fair_rounds.proofs.arrivals.add_arrivals.Goals as goal
use Rattle.fair_rounds.proofs.arrivals.add_arrivals.Goals.{then-from-marks+then-not-marks-from+then-ends-edge+in_ok-push, else-from-marks}

pub loop-preserved : goal.loop-preserved
loop-preserved c =
    let l = c.loop in
    let w = c.args.width in
    let e = c.args.ends.now in
    let old = c.args.marks.now in
    let from : ℕ = (l.edge - 1) / w in
    let choice : ℕ = (l.edge - 1) % w in
    let is : IsFlooding w e old l.marks l.list.items = record { sound = l.invariant.sound; kept = l.invariant.kept; listed = l.invariant.list } in
    let more : IsFlooding w e old c.if-from-marks.marks c.if-from-marks.list.items =
    elim c.if-from-marks.branch [
      | then-from-marks+then-not-marks-from+then-ends-edge+in_ok-push b ↦
          let leads : end_of w e from choice ≡ c.args.node = ap (λ n. get_or e n 0) (edge-place (l.edge - 1) w c.requires.wide) ∙ b.if-ends-edge.true in
          subst (λ fs. IsFlooding w e old c.if-from-marks.marks fs) (sym (ap (λ v. v.items) b.list-is ∙ b.in_ok-push.ensures.items))
          (subst (λ ms. IsFlooding w e old ms (l.list.items ++ from ∷ [])) (sym b.marks-is)
          (flooding-more w e old l.marks l.list.items is from b.if-from-marks.true (reaches-edge w e old from choice c.args.node (edge-choice (l.edge - 1) w c.requires.wide) leads c.requires.node)))
      | else-from-marks b ↦
          subst (λ fs. IsFlooding w e old c.if-from-marks.marks fs) (sym (ap (λ v. v.items) b.list-is))
          (subst (λ ms. IsFlooding w e old ms l.list.items) (sym b.marks-is) is)
    ] in
    record { sound = more.sound; kept = more.kept; list = more.listed }
