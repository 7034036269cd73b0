use Rattle.std.proofs.Common.{◌∙◌, subst, sym}
use Rattle.machine_state.specs.State.{State, state_of}
use Rattle.questions.specs.Question.{IsIndifferent}
use Rattle.exploration.proofs.Slots.{spends-none, starting}
use Rattle.exploration.proofs.machine_space.exploring.space_of.Goals as goal

pub invariant_of-result : goal.invariant_of-result
invariant_of-result g c =
    let asked = c.in_ok-closure.ensures in
    let begun = c.in_ok-states.ensures in
    record {
      given = asked.given;
      range = asked.range;
      few = asked.few;
      closes = asked.closes;
      watches = asked.watches;
      sizes = begun.sizes ∙ sym c.requires;
      held = begun.held;
      is_known = λ known. subst (λ (s : State). IsIndifferent c.args.question.now c.args.policy.now s) (sym begun.means) (c.is_indifferent-indifferent.ensures.indifferent known);
    }

-- ---- how many slots are read

pub returns-in_err-closure-clause-fetched : goal.returns-in_err-closure-clause-fetched
returns-in_err-closure-clause-fetched g c = spends-none _ _

pub returns-in_err-states-clause-fetched : goal.returns-in_err-states-clause-fetched
returns-in_err-states-clause-fetched g c =
    let asked = c.is_indifferent-indifferent.ensures in
    starting c.args.question.now (state_of c.args.machine) asked.unasked asked.least asked.most c.begun_of.ensures.least c.begun_of.ensures.most

pub returns-clause-fetched : goal.returns-clause-fetched
returns-clause-fetched g c =
    let asked = c.is_indifferent-indifferent.ensures in
    starting c.args.question.now (state_of c.args.machine) asked.unasked asked.least asked.most c.begun_of.ensures.least c.begun_of.ensures.most
