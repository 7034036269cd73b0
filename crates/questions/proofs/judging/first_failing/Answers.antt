use Rattle.std.proofs.Common.{◌∙◌, List, false, ap}
use Rattle.std.specs.List.{position}
use Rattle.machine_state.specs.State.{State, state_of}
use Rattle.questions.specs.Question.{PropertyValue, fails}
use Rattle.questions.proofs.About.{indifferent-first}
use Rattle.questions.proofs.judging.first_failing.Goals as goal

pub returns-then-indifferent-clause-value : goal.returns-then-indifferent-clause-value
returns-then-indifferent-clause-value g c =
    let s : State = state_of c.args.machine.now in
    c.failing.ensures.value ∙ ap (λ (ps : List PropertyValue). position (fails false s) ps) c.properties-properties.ensures.value
    ∙ indifferent-first c.args.policy.now s c.tell_uncrossed.ensures c.args.question.now (c.requires.indifferent c.if-indifferent.true)
