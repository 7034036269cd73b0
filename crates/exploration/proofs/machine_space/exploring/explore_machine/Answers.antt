use Rattle.std.proofs.Common.{◌≡◌, IfOk, subst}
use Rattle.machine_state.specs.State.{State, state_of}
use Rattle.separation_policy.specs.Policy.{PolicyValue}
use Rattle.questions.specs.Question.{QuestionValue}
use Rattle.exploration.specs.Laws.{IsAnswerTo}
use Rattle.exploration.specs.Shown.{shown_of}
use Rattle.exploration.specs.Slots.{SearchesFor, explored_in}
use Rattle.exploration.proofs.Slots.{explores-before}
use Rattle.exploration.proofs.machine_space.exploring.explore_machine.Goals as goal

pub returns-clause-answer : goal.returns-clause-answer
returns-clause-answer g c =
    let space = c.in_ok-space.space in
    let made = c.in_ok-space.ensures in
    subst (λ (q : QuestionValue). IfOk c.answer_of.result (λ answered. IsAnswerTo q c.args.policy.now (state_of c.args.machine) answered.explored)) made.question
    (subst (λ (p : PolicyValue). IfOk c.answer_of.result (λ answered. IsAnswerTo space.question p (state_of c.args.machine) answered.explored)) made.policy
    (subst (λ (s : State). IfOk c.answer_of.result (λ answered. IsAnswerTo space.question space.policy s answered.explored)) made.start c.answer_of.ensures.answer))

pub returns-clause-shown : goal.returns-clause-shown
returns-clause-shown g c =
    subst (λ (s : State). IfOk c.answer_of.result (λ answered. answered.shown.items ≡ shown_of c.args.question.now s answered.explored)) c.in_ok-space.ensures.start c.answer_of.ensures.shown

-- ---- how many slots are read

pub returns-in_err-space-clause-fetched : goal.returns-in_err-space-clause-fetched
returns-in_err-space-clause-fetched g c =
    explores-before c.args.question.now c.args.policy.now (state_of c.args.machine) c.from_residual.result _ _ c.from_residual.ensures.0 c.space_of.ensures.fetched

pub returns-clause-fetched : goal.returns-clause-fetched
returns-clause-fetched g c =
    let space = c.in_ok-space.space in
    let made = c.in_ok-space.ensures in
    record {
      begun = c.space_of.new.fetches;
      starts = made.fetched;
      goes_on =
          subst (λ (q : QuestionValue). SearchesFor q c.args.policy.now (state_of c.args.machine) (explored_in c.answer_of.result) c.space_of.new.fetches c.answer_of.new.fetches) made.question
          (subst (λ (p : PolicyValue). SearchesFor space.question p (state_of c.args.machine) (explored_in c.answer_of.result) c.space_of.new.fetches c.answer_of.new.fetches) made.policy
          (subst (λ (s : State). SearchesFor space.question space.policy s (explored_in c.answer_of.result) c.space_of.new.fetches c.answer_of.new.fetches) made.start c.answer_of.ensures.fetched));
    }
