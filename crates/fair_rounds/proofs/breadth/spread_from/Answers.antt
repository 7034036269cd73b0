use Rattle.std.proofs.Common.{ℕ, ◌+◌, ◌<◌, [], ◌∷◌, ◌++◌, length, slice_get, refl, sym, ap, ◌∙◌, subst, arith}
use Rattle.reaches_back.specs.Edges.{end_of}
use Rattle.fair_rounds.specs.declared.breadth.Found.{Found}
use Rattle.fair_rounds.proofs.Edges.{end-inside}
use Rattle.fair_rounds.proofs.Spreading.{IsSoFar, so-far-seen, so-far-new, spread-next}
use Rattle.fair_rounds.proofs.breadth.spread_from.Goals as goal
use Rattle.fair_rounds.proofs.breadth.spread_from.Goals.{then-not-seen-end+in_ok-push, else-not-seen-end}

pub loop-choice-preserved : goal.loop-choice-preserved
loop-choice-preserved c =
    let l = c.loop-choice in
    let from : Found = c.index-from.result.now in
    let end : ℕ = end_of c.args.width c.args.ends.now from.node l.choice in
    let inv = l.invariant in
    let zeroth = slice_get c.args.found.now.items 0 in
    let so_far : IsSoFar c.args.width c.args.ends.now zeroth c.args.at from l.choice l.seen l.found.items = record { there = inv.there; first = inv.first; spread = inv.spread; so_far = inv.so_far } in
    let inside : from.node < length c.args.seen.now = omega (arith, (inv.spread.inside c.args.at from inv.there).0, l.auto.seen) in
    let within : end < length l.seen = omega (arith, end-inside c.args.width c.args.ends.now (length c.args.seen.now) c.requires.table.edges from.node l.choice inside c.loop-choice-test.true, l.auto.seen) in
    let new : Found = record { node = end; parent = c.args.at; choice = l.choice; depth = from.depth + 1 } in
    let is : IsSoFar c.args.width c.args.ends.now zeroth c.args.at from (l.choice + 1) c.if-not-seen-end.seen c.if-not-seen-end.found.items =
    elim c.if-not-seen-end.branch [
      | then-not-seen-end+in_ok-push w ↦
          subst (λ fs. IsSoFar c.args.width c.args.ends.now zeroth c.args.at from (l.choice + 1) c.if-not-seen-end.seen fs) (sym (ap (λ v. v.items) w.found-is ∙ w.in_ok-push.ensures.items))
          (subst (λ ms. IsSoFar c.args.width c.args.ends.now zeroth c.args.at from (l.choice + 1) ms (l.found.items ++ new ∷ [])) (sym w.seen-is)
          (so-far-new c.args.width c.args.ends.now zeroth c.args.at from l.choice l.seen l.found.items so_far c.loop-choice-test.true within w.if-not-seen-end.true new refl refl refl refl))
      | else-not-seen-end w ↦
          subst (λ fs. IsSoFar c.args.width c.args.ends.now zeroth c.args.at from (l.choice + 1) c.if-not-seen-end.seen fs) (sym (ap (λ v. v.items) w.found-is))
          (subst (λ ms. IsSoFar c.args.width c.args.ends.now zeroth c.args.at from (l.choice + 1) ms l.found.items) (sym w.seen-is)
          (so-far-seen c.args.width c.args.ends.now zeroth c.args.at from l.choice l.seen l.found.items so_far w.if-not-seen-end.false))
    ] in
    record { there = is.there; first = is.first; spread = is.spread; so_far = is.so_far }

pub returns-clause-spread : goal.returns-clause-spread
returns-clause-spread c =
    let l = c.loop-choice in
    let inv = l.invariant in
    spread-next c.args.width c.args.ends.now l.seen l.found.items c.args.at c.index-from.result.now inv.there inv.spread (λ d m. inv.so_far d (omega (arith, m, c.loop-choice-test.false)))
