use Rattle.std.proofs.Common.{◌≡◌, ℕ, Bool, [], ◌∷◌, ◌++◌, length, refl, ap, ◌∙◌, arith, length-append}
use Rattle.reaches_back.specs.Edges.{end_of}
use Rattle.fair_rounds.specs.Table.{is_marked}
use Rattle.fair_rounds.proofs.Looping.{pushed}
use Rattle.fair_rounds.proofs.loops.with_edge.Goals as goal

pub loop-at-preserved : goal.loop-at-preserved
loop-at-preserved c =
    let l = c.loop-at in
    let f : ℕ → Bool = λ i. is_marked c.args.marks.now (end_of c.args.width c.args.ends.now i c.args.choice) in
    let items : c.push.new.self.items ≡ l.edges.items ++ f l.at ∷ [] = c.in_ok-push.ensures.items in
    record {
      many = ap length items ∙ omega (arith, length-append l.edges.items (f l.at ∷ []), l.invariant.many);
      each = λ i m. ap (λ ms. is_marked ms i) items ∙ pushed l.edges.items (f l.at) l.at f l.invariant.many l.invariant.each refl i m;
    }

pub returns : goal.returns
returns c =
    let at : c.loop-at.at ≡ length c.args.marks.now = omega arith in
    record { many = c.loop-at.invariant.many ∙ at; each = λ i m. c.loop-at.invariant.each i (omega (arith, m, at)) }
