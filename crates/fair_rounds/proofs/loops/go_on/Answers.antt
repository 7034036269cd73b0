use Rattle.std.proofs.Common.{◌≡◌, ℕ, ◌<◌, true, List, [], ◌∷◌, ◌++◌, length, sym, ap, ◌∙◌, subst, arith}
use Rattle.std.specs.List.{Contains}
use Rattle.reaches_back.specs.Edges.{walked}
use Rattle.fair_rounds.specs.Table.{is_marked}
use Rattle.fair_rounds.specs.Search.{IsWayTo}
use Rattle.fair_rounds.proofs.Edges.{place-inside, walked-inside}
use Rattle.fair_rounds.proofs.Looping.{marked-within, adds-over, adds-none}
use Rattle.fair_rounds.proofs.loops.go_on.Goals as goal

pub returns-then-has-clause-goes_on : goal.returns-then-has-clause-goes_on
returns-then-has-clause-goes_on c =
    adds-none c.args.width c.args.ends.now c.args.marks.now c.args.choice c.args.from c.args.taken.now.items c.requires.marked
    (subst (λ (xs : List ℕ). Contains xs c.args.choice) c.deref.ensures.value (c.has.ensures.0 c.if-has.true))

pub returns-in_default-clause-goes_on : goal.returns-in_default-clause-goes_on
returns-in_default-clause-goes_on c path all =
    let w = c.args.width in
    let e = c.args.ends.now in
    let none = subst (IsWayTo w e c.args.from c.deref-2.result.now) c.in_default.is c.in_ok-way.ensures in
    let at = walked w e c.args.from path in
    let inside : at < length c.args.marks.now = walked-inside w e (length c.args.marks.now) c.requires.table.edges c.args.from path c.requires.from all in
    sym (c.in_ok-edges.ensures.each at inside) ∙ ap (λ ms. is_marked ms at) (sym c.deref-2.ensures.value) ∙ none path all

pub bounds-ends-way : goal.bounds-ends-way
bounds-ends-way c =
    let told = subst (IsWayTo c.args.width c.args.ends.now c.args.from c.deref-2.result.now) c.in-Some.is c.in_ok-way.ensures in
    let marked : is_marked c.in_ok-edges.edges.items c.in-Some.way.end ≡ true = ap (λ ms. is_marked ms c.in-Some.way.end) (sym c.deref-2.ensures.value) ∙ told.2 in
    place-inside c.args.width c.args.ends.now (length c.args.marks.now) c.requires.table.edges c.in-Some.way.end c.args.choice
    (omega (arith, marked-within c.in_ok-edges.edges.items c.in-Some.way.end marked, c.in_ok-edges.ensures.many)) c.requires.choice

pub returns-clause-goes_on : goal.returns-clause-goes_on
returns-clause-goes_on c =
    let w = c.args.width in
    let e = c.args.ends.now in
    let end = c.in-Some.way.end in
    let taken = c.args.taken.now.items in
    let path = c.in-Some.way.choices.items in
    let told = subst (IsWayTo w e c.args.from c.deref-2.result.now) c.in-Some.is c.in_ok-way.ensures in
    let marked : is_marked c.in_ok-edges.edges.items end ≡ true = ap (λ ms. is_marked ms end) (sym c.deref-2.ensures.value) ∙ told.2 in
    let inside : end < length c.args.marks.now = omega (arith, marked-within c.in_ok-edges.edges.items end marked, c.in_ok-edges.ensures.many) in
    let is : c.push.new.self.items ≡ taken ++ path ++ c.args.choice ∷ [] =
    c.in_ok-push.ensures.items ∙ ap (λ xs. xs ++ c.args.choice ∷ []) (c.in_ok-extend_from_slice.ensures.items ∙ ap (λ p. taken ++ p) c.deref-3.ensures.value) in
    adds-over w e c.args.marks.now c.args.choice c.args.from end taken path c.push.new.self.items c.requires.choice told.0 told.1
    (sym (c.in_ok-edges.ensures.each end inside) ∙ marked) is
