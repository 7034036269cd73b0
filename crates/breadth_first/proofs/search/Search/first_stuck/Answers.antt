use Rattle.std.proofs.Common.{◌≡◌, ◌*◌, length, map, sym, ap, ◌∙◌, subst}
use Rattle.std.proofs.lemmas.List.{length-map}
use Rattle.reaches_back.specs.Edges.{AreEdges as AreNumbered}
use Rattle.breadth_first.specs.Progress.{AreEdges, IsFirstUnreached}
use Rattle.breadth_first.proofs.Numbers.{first-stuck, numbered, unreached-within}
use Rattle.breadth_first.proofs.search.Search.first_stuck.Goals as goal

pub first_unreached-requires : goal.first_unreached-requires
first_unreached-requires g c =
    let s = c.args.space.now in
    let keys = c.args.self.now.seen.keys in
    let states = map (g.S.Space.means s) keys in
    let ends = c.args.self.now.edges.ends.items in
    let are = subst (λ n. AreEdges (g.S.Space.system s) states n ends) (ap (λ n. n * (g.S.Space.system s).choices) (sym (length-map keys (g.S.Space.means s)))) c.requires.edges in
    let copied = c.deref_mut.ensures.value ∙ c.in_ok-marks.ensures.items_if_clones_equal (λ x y e. e) in
    let many : length c.deref_mut.result.now ≡ length states = ap length copied ∙ c.requires.many ∙ sym (length-map keys (g.S.Space.means s)) in
    subst (λ w. AreNumbered w c.deref.result.now (length c.deref_mut.result.now)) (sym c.choices-width.ensures)
    (subst (λ e. AreNumbered (g.S.Space.system s).choices e (length c.deref_mut.result.now)) (sym c.deref.ensures.value)
    (subst (AreNumbered (g.S.Space.system s).choices ends) (sym many) (numbered (g.S.Space.system s) states ends are)))

pub returns-clause-index : goal.returns-clause-index
returns-clause-index g c =
    let copied = c.deref_mut.ensures.value ∙ c.in_ok-marks.ensures.items_if_clones_equal (λ x y e. e) in
    unreached-within c.choices-width.result c.deref.result.now c.deref_mut.result.now c.first_unreached.result c.first_unreached.ensures (length c.args.self.now.seen.keys) (ap length copied ∙ c.requires.many)

pub returns-clause-first : goal.returns-clause-first
returns-clause-first g c t marked =
    let s = c.args.space.now in
    let keys = c.args.self.now.seen.keys in
    let states = map (g.S.Space.means s) keys in
    let ends = c.args.self.now.edges.ends.items in
    let are = subst (λ n. AreEdges (g.S.Space.system s) states n ends) (ap (λ n. n * (g.S.Space.system s).choices) (sym (length-map keys (g.S.Space.means s)))) c.requires.edges in
    let copied = c.deref_mut.ensures.value ∙ c.in_ok-marks.ensures.items_if_clones_equal (λ x y e. e) in
    let first = subst (λ w. IsFirstUnreached w c.deref.result.now c.deref_mut.result.now c.first_unreached.result) c.choices-width.ensures c.first_unreached.ensures in
    let second = subst (λ e. IsFirstUnreached (g.S.Space.system s).choices e c.deref_mut.result.now c.first_unreached.result) c.deref.ensures.value first in
    first-stuck (g.S.Space.system s) states ends are t c.deref_mut.result.now (copied ∙ marked) c.first_unreached.result second
