use Rattle.std.proofs.Common.{◌∙◌, ℕ, List, subst, sym}
use Rattle.questions.specs.Choice.{AreChoices}
use Rattle.questions.specs.Question.{QuestionValue, choices_of}
use Rattle.exploration.proofs.Shown.{answer-choices}
use Rattle.exploration.specs.Shown.{told_path}
use Rattle.exploration.proofs.Slots.{searches-failed, searches-told, searches-untold, told-spent}
use Rattle.exploration.proofs.machine_space.exploring.answer_of.Goals as goal

pub counted_from_start-requires-clause-path : goal.counted_from_start-requires-clause-path
counted_from_start-requires-clause-path g c =
    let are = answer-choices c.args.space.now.question c.args.space.now.policy c.args.space.now.start c.in_ok-explored.explored c.in_ok-explored.ensures.answer in
    subst (λ (q : QuestionValue). AreChoices (choices_of q) c.as_slice.result.now) c.requires.question
    (subst (λ (path : List ℕ). AreChoices (choices_of c.args.space.now.question) path) (sym (c.as_slice.ensures.value ∙ c.in_ok-path.ensures)) are)

-- ---- how many slots are read

pub returns-in_err-explored-clause-fetched : goal.returns-in_err-explored-clause-fetched
returns-in_err-explored-clause-fetched g c =
    let v = c.args.space.now in
    searches-failed v.question v.policy v.start c.search.result c.from_residual.result _ _ c.from_residual.ensures.0 c.search.ensures.fetched

pub returns-in_err-path-clause-fetched : goal.returns-in_err-path-clause-fetched
returns-in_err-path-clause-fetched g c =
    let v = c.args.space.now in
    searches-failed v.question v.policy v.start c.search.result c.from_residual-in_err-path.result _ _ c.from_residual-in_err-path.ensures.0 c.search.ensures.fetched

-- the search came to an answer, and no more is read for the choices that it tells
pub returns-in_err-shown-clause-fetched : goal.returns-in_err-shown-clause-fetched
returns-in_err-shown-clause-fetched g c =
    let v = c.args.space.now in
    let searched = c.in_ok-explored.ensures in
    searches-untold v.question v.policy v.start c.in_ok-explored.explored _ _ _ searched.fetched searched.answer
    (told-spent (sym c.requires.question) searched.start (told_path c.in_ok-explored.explored) (c.as_slice.ensures.value ∙ c.in_ok-path.ensures) c.counted_from_start.ensures.least c.counted_from_start.ensures.most)
    c.from_residual-in_err-shown.result c.from_residual-in_err-shown.ensures.0

pub returns-clause-fetched : goal.returns-clause-fetched
returns-clause-fetched g c =
    let v = c.args.space.now in
    let searched = c.in_ok-explored.ensures in
    searches-told v.question v.policy v.start c.in_ok-explored.explored _ _ _ searched.fetched searched.answer
    (told-spent (sym c.requires.question) searched.start (told_path c.in_ok-explored.explored) (c.as_slice.ensures.value ∙ c.in_ok-path.ensures) c.counted_from_start.ensures.least c.counted_from_start.ensures.most)
