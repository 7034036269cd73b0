use Rattle.std.proofs.Common.{◌≡◌, ◌∷◌, [], reverse, get_or, Some, slice_get, sym, ap, ◌∙◌, subst, arith}
use Rattle.std.proofs.lemmas.List.{reverse-append}
use Rattle.std.proofs.lemmas.Option.{slice_get-get_or}
use Rattle.fair_rounds.specs.declared.breadth.Found.{Found}
use Rattle.fair_rounds.specs.Search.{IsWay}
use Rattle.fair_rounds.proofs.WaysBack.{way-back, way-none}
use Rattle.fair_rounds.proofs.ways.path_to.Goals as goal

pub loop-at-init : goal.loop-at-init
loop-at-init c = record {
  within = c.requires.place;
  way = λ width ends tree. subst (λ p. IsWay width ends c.args.found.now c.args.place c.args.place (reverse p)) (sym c.new-path.ensures.items)
      (way-none width ends c.args.found.now c.args.place);
}

pub loop-at-preserved : goal.loop-at-preserved
loop-at-preserved c =
    let none : Found = record { node = 0; parent = 0; choice = 0; depth = 0 } in
    let entry : Found = get_or c.args.found.now c.loop-at.at none in
    let there : slice_get c.args.found.now c.loop-at.at ≡ Some entry = slice_get-get_or c.args.found.now c.loop-at.at none c.loop-at.invariant.within in
    let earlier = c.requires.earlier c.loop-at.at entry c.loop-at-test.true there in
    let turned : reverse c.push.new.self.items ≡ entry.choice ∷ reverse c.loop-at.path.items = ap reverse c.in_ok-push.ensures.items ∙ reverse-append c.loop-at.path.items (entry.choice ∷ []) in
    record {
      within = omega (arith, earlier, c.loop-at.invariant.within);
      way = λ width ends tree. subst (IsWay width ends c.args.found.now entry.parent c.args.place) (sym turned)
          (way-back width ends c.args.found.now tree c.loop-at.at c.args.place entry c.loop-at-test.true there (reverse c.loop-at.path.items) (c.loop-at.invariant.way width ends tree));
    }

pub returns : goal.returns
returns c width ends tree =
    let last : c.loop-at.at ≡ 0 = omega arith in
    subst (IsWay width ends c.args.found.now 0 c.args.place) (sym c.reverse.ensures.items)
    (subst (λ n. IsWay width ends c.args.found.now n c.args.place (reverse c.loop-at.path.items)) last (c.loop-at.invariant.way width ends tree))
