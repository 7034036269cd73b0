use Rattle.std.proofs.Common.{◌≡◌, false, length, get_or, Some, slice_get, sym, ap, ◌∙◌, subst, arith}
use Rattle.std.proofs.lemmas.Option.{slice_get_within, get_or_from_slice_get}
use Rattle.fair_rounds.specs.declared.breadth.Found.{Found}
use Rattle.fair_rounds.specs.Search.{AreEarlier, IsTree, IsWay}
use Rattle.fair_rounds.proofs.WaysBack.{tree-earlier, way-found}
use Rattle.fair_rounds.proofs.ways.way_to.Goals as goal

pub path_to-requires-clause-earlier : goal.path_to-requires-clause-earlier
path_to-requires-clause-earlier c =
    subst AreEarlier (sym c.deref-2.ensures.value) (tree-earlier c.args.width c.args.ends.now c.in_ok-found.found.items c.in_ok-found.ensures.tree)

pub path_to-requires-clause-place : goal.path_to-requires-clause-place
path_to-requires-clause-place c =
    let one = c.in-Some.ensures in
    omega (arith, slice_get_within c.deref.result.now c.in-Some.place one.0 one.1, ap length c.deref.ensures.value, ap length c.deref-2.ensures.value)

pub index-requires : goal.index-requires
index-requires c =
    let one = c.in-Some.ensures in
    omega (arith, slice_get_within c.deref.result.now c.in-Some.place one.0 one.1, ap length c.deref.ensures.value)

pub returns : goal.returns
returns c =
    let one = c.in-Some.ensures in
    let there : slice_get c.in_ok-found.found.items c.in-Some.place ≡ Some one.0 = ap (λ fs. slice_get fs c.in-Some.place) (sym c.deref.ensures.value) ∙ one.1 in
    let tree : IsTree c.args.width c.args.ends.now c.deref-2.result.now = subst (IsTree c.args.width c.args.ends.now) (sym c.deref-2.ensures.value) c.in_ok-found.ensures.tree in
    let way : IsWay c.args.width c.args.ends.now c.in_ok-found.found.items 0 c.in-Some.place c.in_ok-choices.choices.items =
    subst (λ fs. IsWay c.args.width c.args.ends.now fs 0 c.in-Some.place c.in_ok-choices.choices.items) c.deref-2.ensures.value (c.in_ok-choices.ensures c.args.width c.args.ends.now tree) in
    let same : c.index.result.now ≡ one.0 = c.index.ensures ∙ get_or_from_slice_get c.in_ok-found.found.items c.in-Some.place one.0 c.index.result.now there in
    let node : c.index.result.now.node ≡ one.0.node = ap (λ (f : Found). f.node) same in (
      way.choices,
      way-found c.args.width c.args.ends.now (length c.args.marks.now) c.args.from c.in_ok-found.found.items c.in_ok-found.ensures c.in-Some.place one.0 there c.in_ok-choices.choices.items way ∙ sym node,
      ap (λ n. get_or c.args.marks.now n false) node ∙ one.2,
    )
