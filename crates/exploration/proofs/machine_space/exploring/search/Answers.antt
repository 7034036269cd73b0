use Rattle.std.proofs.Common.{◌∙◌, List, ap, refl, sym}
use Rattle.machine_state.specs.State.{State}
use Rattle.breadth_first.specs.System.{System}
use Rattle.questions.specs.Question.{PropertyValue, QuestionValue, is_count}
use Rattle.questions.specs.Asking.{asking}
use Rattle.exploration.specs.Explored.{limits_of, wants_by}
use Rattle.exploration.specs.machine_space.Space.{searched_of}
use Rattle.exploration.proofs.Slots.{spent-asked, spent-err, spent-none, spent-ok}
use Rattle.exploration.proofs.Spaces.{answered, asked-there, wanted-there}
use Rattle.exploration.proofs.machine_space.exploring.search.Goals as goal

pub explore-requires-clause-wants : goal.explore-requires-clause-wants
explore-requires-clause-wants g c =
    wanted-there _ _ _ (c.deref.ensures.value ∙ c.in_ok-wants.ensures) (c.properties.ensures.value ∙ ap (λ (q : QuestionValue). q.properties) (sym c.requires))

pub explore-requires-clause-counts : goal.explore-requires-clause-counts
explore-requires-clause-counts g c =
    asked-there is_count _ _ _ (c.deref-2.ensures.value ∙ c.in_ok-counts.ensures) (c.properties-2.ensures.value ∙ ap (λ (q : QuestionValue). q.properties) (sym c.requires))

pub returns-clause-answer : goal.returns-clause-answer
returns-clause-answer g c =
    let v = c.args.space.now in
    let same = c.properties.ensures.value ∙ ap (λ (q : QuestionValue). q.properties) (sym c.requires) in
    let same_too = c.properties-2.ensures.value ∙ ap (λ (q : QuestionValue). q.properties) (sym c.requires) in
    answered v.question v.policy v.start v.start c.limits_of-limits.result c.deref.result.now c.deref-2.result.now c.in_ok-explored.explored refl
    (c.limits_of-limits.ensures.value ∙ ap limits_of (sym c.requires))
    (c.deref.ensures.value ∙ c.in_ok-wants.ensures ∙ ap wants_by same)
    (c.deref-2.ensures.value ∙ c.in_ok-counts.ensures ∙ ap (λ (ps : List PropertyValue). asking is_count ps) same_too)
    c.in_ok-explored.ensures.answer

pub returns-clause-start : goal.returns-clause-start
returns-clause-start g c = ap (λ (s : System State). s.start) c.in_ok-explored.ensures.keeps.system

-- ---- how many slots are read

pub returns-in_err-wants-clause-fetched : goal.returns-in_err-wants-clause-fetched
returns-in_err-wants-clause-fetched g c = spent-none (searched_of c.args.space.now.question c.args.space.now.policy c.args.space.now.start) _ _ _ _ _ c.from_residual.ensures.0

pub returns-in_err-counts-clause-fetched : goal.returns-in_err-counts-clause-fetched
returns-in_err-counts-clause-fetched g c = spent-none (searched_of c.args.space.now.question c.args.space.now.policy c.args.space.now.start) _ _ _ _ _ c.from_residual-in_err-counts.ensures.0

pub returns-in_err-explored-clause-fetched : goal.returns-in_err-explored-clause-fetched
returns-in_err-explored-clause-fetched g c =
    let v = c.args.space.now in
    let same = c.properties.ensures.value ∙ ap (λ (q : QuestionValue). q.properties) (sym c.requires) in
    let same_too = c.properties-2.ensures.value ∙ ap (λ (q : QuestionValue). q.properties) (sym c.requires) in
    spent-err (searched_of v.question v.policy v.start) _ _ _ _ _ c.from_residual-in_err-explored.ensures.0
    (spent-asked (searched_of v.question v.policy v.start) v.question c.limits_of-limits.result c.deref.result.now c.deref-2.result.now _ _ _
    (c.limits_of-limits.ensures.value ∙ ap limits_of (sym c.requires))
    (c.deref.ensures.value ∙ c.in_ok-wants.ensures ∙ ap wants_by same)
    (c.deref-2.ensures.value ∙ c.in_ok-counts.ensures ∙ ap (λ (ps : List PropertyValue). asking is_count ps) same_too)
    c.in_err-explored.ensures.spends)

pub returns-clause-fetched : goal.returns-clause-fetched
returns-clause-fetched g c =
    let v = c.args.space.now in
    let same = c.properties.ensures.value ∙ ap (λ (q : QuestionValue). q.properties) (sym c.requires) in
    let same_too = c.properties-2.ensures.value ∙ ap (λ (q : QuestionValue). q.properties) (sym c.requires) in
    spent-ok (searched_of v.question v.policy v.start) _ _ _ c.in_ok-explored.explored
    (spent-asked (searched_of v.question v.policy v.start) v.question c.limits_of-limits.result c.deref.result.now c.deref-2.result.now _ _ _
    (c.limits_of-limits.ensures.value ∙ ap limits_of (sym c.requires))
    (c.deref.ensures.value ∙ c.in_ok-wants.ensures ∙ ap wants_by same)
    (c.deref-2.ensures.value ∙ c.in_ok-counts.ensures ∙ ap (λ (ps : List PropertyValue). asking is_count ps) same_too)
    c.in_ok-explored.ensures.spends)
