use Rattle.std.proofs.Common.{◌≡◌, map, length, sym, ap, ◌∙◌, subst}
use Rattle.std.proofs.lemmas.List.{length-map}
use Rattle.std.proofs.lemmas.Option.{slice_get_within, same_Some}
use Rattle.breadth_first.specs.Marks.{goal_of}
use Rattle.breadth_first.specs.Progress.{MayMiss}
use Rattle.breadth_first.proofs.Musts.{lost-misses, avoided-misses, after-misses, start-marks}
use Rattle.breadth_first.proofs.Telling.{ok-then}
use Rattle.breadth_first.proofs.search.Search.missed_by.Goals as goal

pub list_at-goals-requires : goal.list_at-goals-requires
list_at-goals-requires g c = slice_get_within c.args.lists.now c.args.number _ c.requires.goals

pub list_at-firsts-requires : goal.list_at-firsts-requires
list_at-firsts-requires g c = slice_get_within c.args.lists.now c.args.place _ (c.requires.firsts c.in-MustAfter.field-0 c.in-MustAfter.is)

pub avoided-requires-in-MustAfter-clause-goals : goal.avoided-requires-in-MustAfter-clause-goals
avoided-requires-in-MustAfter-clause-goals g c =
    let s = c.args.space.now in
    let keys = c.args.self.now.seen.keys in
    ap length (same_Some c.list_at-goals.result.now _ (sym c.list_at-goals.ensures ∙ c.requires.goals)) ∙ length-map (map (g.S.Space.means s) keys) ((g.S.Space.system s).test (goal_of c.args.want)) ∙ length-map keys (g.S.Space.means s)

pub avoided-requires-in-MustAfter-clause-firsts : goal.avoided-requires-in-MustAfter-clause-firsts
avoided-requires-in-MustAfter-clause-firsts g c =
    let s = c.args.space.now in
    let keys = c.args.self.now.seen.keys in
    ap length (same_Some c.list_at-firsts.result.now _ (sym c.list_at-firsts.ensures ∙ c.requires.firsts c.in-MustAfter.field-0 c.in-MustAfter.is))
    ∙ length-map (map (g.S.Space.means s) keys) ((g.S.Space.system s).first c.in-MustAfter.field-0) ∙ length-map keys (g.S.Space.means s)

pub returns-in-Ever : goal.returns-in-Ever
returns-in-Ever g c =
    let s = c.args.space.now in
    let keys = c.args.self.now.seen.keys in
    let states = map (g.S.Space.means s) keys in
    let goals = same_Some c.list_at-goals.result.now _ (sym c.list_at-goals.ensures ∙ c.requires.goals) ∙ ap (λ w. map ((g.S.Space.system s).test (goal_of w)) states) c.in-Ever.is in
    ok-then c.lost.result c.lost.ensures (λ missed lose. subst (λ w. MayMiss (g.S.Space.system s) states (length keys) w c.args.number missed) (sym c.in-Ever.is) (lost-misses (g.S.Space.system s) states (length keys) c.in-Ever.field-0 c.args.number missed (lose c.in-Ever.field-0 goals)))

pub returns-in_ok-start-in-Must : goal.returns-in_ok-start-in-Must
returns-in_ok-start-in-Must g c =
    let s = c.args.space.now in
    let system = g.S.Space.system s in
    let keys = c.args.self.now.seen.keys in
    let states = map (g.S.Space.means s) keys in
    let goals = same_Some c.list_at-goals.result.now _ (sym c.list_at-goals.ensures ∙ c.requires.goals) ∙ ap (λ w. map (system.test (goal_of w)) states) c.in-Must.is in
    let many : c.len.result ≡ length states = c.len.ensures.len ∙ sym (length-map keys (g.S.Space.means s)) in
    let firsts = c.deref.ensures.value ∙ c.in_ok-start-in-Must.ensures ∙ start-marks system (g.met.S.Space.decides s) states c.requires.opened c.requires.searched.came.start c.len.result many in
    ok-then c.avoided.result c.avoided.ensures
    (λ missed avoid. subst (λ w. MayMiss system states (length keys) w c.args.number missed) (sym c.in-Must.is)
    (avoided-misses system states (length keys) (g.met.S.Space.decides s) c.in-Must.field-0 c.args.number missed (avoid c.in-Must.field-0 (system.same system.start) goals firsts)))

pub returns-in-MustAfter : goal.returns-in-MustAfter
returns-in-MustAfter g c =
    let s = c.args.space.now in
    let system = g.S.Space.system s in
    let keys = c.args.self.now.seen.keys in
    let states = map (g.S.Space.means s) keys in
    let goals = same_Some c.list_at-goals.result.now _ (sym c.list_at-goals.ensures ∙ c.requires.goals) ∙ ap (λ w. map (system.test (goal_of w)) states) c.in-MustAfter.is in
    let firsts = same_Some c.list_at-firsts.result.now _ (sym c.list_at-firsts.ensures ∙ c.requires.firsts c.in-MustAfter.field-0 c.in-MustAfter.is) in
    ok-then c.avoided-in-MustAfter.result c.avoided-in-MustAfter.ensures
    (λ missed avoid. subst (λ w. MayMiss system states (length keys) w c.args.number missed) (sym c.in-MustAfter.is)
    (after-misses system states (length keys) c.in-MustAfter.field-0 c.args.number missed (avoid c.in-MustAfter.field-0 (system.first c.in-MustAfter.field-0) goals firsts)))
