use Rattle.std.proofs.Common.{◌≡◌, ◌*◌, length, map, MatchOption, refl, sym, ap, ◌∙◌, subst}
use Rattle.std.proofs.lemmas.List.{length-map}
use Rattle.fair_rounds.specs.Told.{IsAnswer}
use Rattle.reaches_back.specs.Edges.{AreEdges as AreNumbered}
use Rattle.breadth_first.specs.Paths.{MustCome}
use Rattle.breadth_first.specs.Answer.{IsAvoided}
use Rattle.breadth_first.specs.Progress.{AreEdges}
use Rattle.breadth_first.proofs.Musts.{answer-means}
use Rattle.breadth_first.proofs.Numbers.{numbered}
use Rattle.breadth_first.proofs.search.Search.avoided.Goals as goal

pub find_evasion-requires-clause-edges : goal.find_evasion-requires-clause-edges
find_evasion-requires-clause-edges g c =
    let s = c.args.space.now in
    let keys = c.args.self.now.seen.keys in
    let states = map (g.S.Space.means s) keys in
    let ends = c.args.self.now.edges.ends.items in
    let are = subst (λ n. AreEdges (g.S.Space.system s) states n ends) (ap (λ n. n * (g.S.Space.system s).choices) (sym (length-map keys (g.S.Space.means s)))) c.requires.edges in
    let many : length c.args.goals.now ≡ length states = c.requires.goals ∙ sym (length-map keys (g.S.Space.means s)) in
    subst (λ w. AreNumbered w c.deref.result.now (length c.args.goals.now)) (sym c.choices-width.ensures)
    (subst (λ e. AreNumbered (g.S.Space.system s).choices e (length c.args.goals.now)) (sym c.deref.ensures.value)
    (subst (AreNumbered (g.S.Space.system s).choices ends) (sym many) (numbered (g.S.Space.system s) states ends are)))

pub returns-in_default : goal.returns-in_default
returns-in_default g c t first goals firsts =
    let s = c.args.space.now in
    let keys = c.args.self.now.seen.keys in
    let states = map (g.S.Space.means s) keys in
    let ends = c.args.self.now.edges.ends.items in
    let are = subst (λ n. AreEdges (g.S.Space.system s) states n ends) (ap (λ n. n * (g.S.Space.system s).choices) (sym (length-map keys (g.S.Space.means s)))) c.requires.edges in
    let wide = subst (λ w. IsAnswer w c.deref.result.now c.args.goals.now c.args.firsts.now 0 c.in_ok-evasion.field-0) c.choices-width.ensures c.in_ok-evasion.ensures in
    let told = subst (λ e. IsAnswer (g.S.Space.system s).choices e c.args.goals.now c.args.firsts.now 0 c.in_ok-evasion.field-0) c.deref.ensures.value wide in
    let means = answer-means (g.S.Space.system s) (g.met.S.Space.decides s) states c.requires.opened ends are t c.args.goals.now goals first c.args.firsts.now firsts c.requires.searched.came.start
    (length keys) (sym (length-map keys (g.S.Space.means s))) c.in_ok-evasion.field-0 told in
    subst (λ e. MatchOption e (MustCome (g.S.Space.system s) first t (length keys)) (λ v. IsAvoided (g.S.Space.system s) first t v.path.items v.cycle.items)) c.in_default.is means

pub returns : goal.returns
returns g c t first goals firsts =
    let s = c.args.space.now in
    let keys = c.args.self.now.seen.keys in
    let states = map (g.S.Space.means s) keys in
    let ends = c.args.self.now.edges.ends.items in
    let are = subst (λ n. AreEdges (g.S.Space.system s) states n ends) (ap (λ n. n * (g.S.Space.system s).choices) (sym (length-map keys (g.S.Space.means s)))) c.requires.edges in
    let wide = subst (λ w. IsAnswer w c.deref.result.now c.args.goals.now c.args.firsts.now 0 c.in_ok-evasion.field-0) c.choices-width.ensures c.in_ok-evasion.ensures in
    let told = subst (λ e. IsAnswer (g.S.Space.system s).choices e c.args.goals.now c.args.firsts.now 0 c.in_ok-evasion.field-0) c.deref.ensures.value wide in
    let means = answer-means (g.S.Space.system s) (g.met.S.Space.decides s) states c.requires.opened ends are t c.args.goals.now goals first c.args.firsts.now firsts c.requires.searched.came.start
    (length keys) (sym (length-map keys (g.S.Space.means s))) c.in_ok-evasion.field-0 told in
    (refl, subst (λ e. MatchOption e (MustCome (g.S.Space.system s) first t (length keys)) (λ v. IsAvoided (g.S.Space.system s) first t v.path.items v.cycle.items)) c.in-Some.is means)
