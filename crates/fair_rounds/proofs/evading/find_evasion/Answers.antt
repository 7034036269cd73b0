use Rattle.std.proofs.Common.{ℕ, ◌+◌, ◌<◌, false, List, length, slice_get, sym, ap, ◌∙◌, subst, arith}
use Rattle.std.proofs.lemmas.Option.{slice_get_within}
use Rattle.reaches_back.specs.Edges.{AreEdges}
use Rattle.fair_rounds.specs.declared.breadth.Found.{Found}
use Rattle.fair_rounds.specs.Table.{walled, wanting}
use Rattle.fair_rounds.specs.Search.{AreEarlier, IsTree, IsSearched, IsWay}
use Rattle.fair_rounds.specs.Told.{IsCaught}
use Rattle.fair_rounds.proofs.Walls.{walled-edges}
use Rattle.fair_rounds.proofs.Wanting.{wanting-edges, wanting-inside}
use Rattle.fair_rounds.proofs.WaysBack.{tree-earlier}
use Rattle.fair_rounds.proofs.Evasions.{none-comes, one-evades}
use Rattle.fair_rounds.proofs.evading.find_evasion.Goals as goal

pub search-requires : goal.search-requires
search-requires c =
    let a = c.args in
    let n = length a.goals.now in
    record {
      table = record {
        edges = subst (λ t. AreEdges a.width t (n + n)) (sym (c.deref.ensures.value ∙ c.in_ok-table.ensures)) (wanting-edges a.width a.ends.now a.goals.now a.firsts.now c.requires.edges);
        many = c.requires.few;
        wide = c.requires.wide;
      };
      start = subst (λ s. s < n + n) (sym c.first_node.ensures) (wanting-inside a.width a.ends.now a.goals.now a.firsts.now c.requires.edges false a.start c.requires.start);
    }

pub first_caught-requires : goal.first_caught-requires
first_caught-requires c =
    let a = c.args in
    let n = length a.goals.now in
    record {
      table = record {
        edges = subst (λ t. AreEdges a.width t (n + 1)) (sym (c.deref-2.ensures.value ∙ c.in_ok-walls.ensures)) (walled-edges a.width a.ends.now a.goals.now c.requires.edges);
        many = omega (arith, c.requires.few, c.requires.start);
        wide = c.requires.wide;
      };
      found = λ i f h. c.in_ok-found.ensures.inside i f (ap (λ fs. slice_get fs i) (sym c.deref-3.ensures.value) ∙ h);
    }

-- the search, of the table that it was made of
abbrev Is : ℕ → List ℕ → ℕ → ℕ → List Found → Type 0
Is width table nodes from found = IsSearched width table nodes from found

pub returns-in_default : goal.returns-in_default
returns-in_default c =
    let a = c.args in
    let n = length a.goals.now in
    let found = c.in_ok-found.found.items in
    let one = subst (λ t. Is a.width t (n + n) c.first_node.result found) (c.deref.ensures.value ∙ c.in_ok-table.ensures) c.in_ok-found.ensures in
    let searched = subst (λ s. Is a.width (wanting a.ends.now a.goals.now a.firsts.now) (n + n) s found) c.first_node.ensures one in
    let told = subst (λ w. IsCaught a.width w n c.deref-3.result.now c.in_ok-caught.field-0) (c.deref-2.ensures.value ∙ c.in_ok-walls.ensures) c.in_ok-caught.ensures in
    let all = subst (λ fs. IsCaught a.width (walled a.width a.ends.now a.goals.now) n fs c.in_ok-caught.field-0) c.deref-3.ensures.value told in
    let none = subst (IsCaught a.width (walled a.width a.ends.now a.goals.now) n found) c.in_default.is all in
    none-comes a.width a.ends.now a.goals.now a.firsts.now a.start c.requires.edges c.requires.start found searched none

pub path_to-requires : goal.path_to-requires
path_to-requires c =
    let a = c.args in
    let n = length a.goals.now in
    let found = c.in_ok-found.found.items in
    let told = subst (λ w. IsCaught a.width w n c.deref-3.result.now c.in_ok-caught.field-0) (c.deref-2.ensures.value ∙ c.in_ok-walls.ensures) c.in_ok-caught.ensures in
    let all = subst (λ fs. IsCaught a.width (walled a.width a.ends.now a.goals.now) n fs c.in_ok-caught.field-0) c.deref-3.ensures.value told in
    let caught = subst (IsCaught a.width (walled a.width a.ends.now a.goals.now) n found) c.in-Some.is all in
    record {
      earlier = subst AreEarlier (sym c.deref-4.ensures.value) (tree-earlier a.width c.deref.result.now found c.in_ok-found.ensures.tree);
      place = omega (arith, slice_get_within found c.in-Some.caught.place caught.entry caught.there, ap length c.deref-4.ensures.value);
    }

pub returns : goal.returns
returns c =
    let a = c.args in
    let n = length a.goals.now in
    let table = wanting a.ends.now a.goals.now a.firsts.now in
    let found = c.in_ok-found.found.items in
    let is = c.deref.ensures.value ∙ c.in_ok-table.ensures in
    let one = subst (λ t. Is a.width t (n + n) c.first_node.result found) is c.in_ok-found.ensures in
    let searched = subst (λ s. Is a.width table (n + n) s found) c.first_node.ensures one in
    let told = subst (λ w. IsCaught a.width w n c.deref-3.result.now c.in_ok-caught.field-0) (c.deref-2.ensures.value ∙ c.in_ok-walls.ensures) c.in_ok-caught.ensures in
    let all = subst (λ fs. IsCaught a.width (walled a.width a.ends.now a.goals.now) n fs c.in_ok-caught.field-0) c.deref-3.ensures.value told in
    let caught = subst (IsCaught a.width (walled a.width a.ends.now a.goals.now) n found) c.in-Some.is all in
    let tree : IsTree a.width table c.deref-4.result.now = subst (IsTree a.width table) (sym c.deref-4.ensures.value) searched.tree in
    let way : IsWay a.width table found 0 c.in-Some.caught.place c.in_ok-path.path.items =
    subst (λ fs. IsWay a.width table fs 0 c.in-Some.caught.place c.in_ok-path.path.items) c.deref-4.ensures.value (c.in_ok-path.ensures a.width table tree) in
    one-evades a.width a.ends.now a.goals.now a.firsts.now a.start c.requires.edges c.requires.start found searched c.in-Some.caught.place c.in-Some.caught.cycle.items c.in_ok-path.path.items caught way
