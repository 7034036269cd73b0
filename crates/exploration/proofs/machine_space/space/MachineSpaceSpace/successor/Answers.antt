use Rattle.std.proofs.Common.{◌<◌, length, ap, arith, subst, sym}
use Rattle.machine_state.specs.State.{State}
use Rattle.quiet_finding.specs.Watched.{watch_of}
use Rattle.state_parts.specs.Space.{state_in}
use Rattle.questions.specs.Choice.{choice_events}
use Rattle.questions.specs.Question.{IsIndifferent}
use Rattle.exploration.proofs.Slots.{choice-spent}
use Rattle.exploration.proofs.Spaces.{indifferent-run, keeps_grown, next-means, space_grown}
use Rattle.exploration.proofs.machine_space.space.MachineSpaceSpace.successor.Goals as goal

pub chosen-requires-clause-held : goal.chosen-requires-clause-held
chosen-requires-clause-held g c = let asked = rw (← c.self.view_is) at c.requires.held in asked.held

pub invariant_of-self : goal.invariant_of-self
invariant_of-self g c =
    let i = c.self.inside in
    space_grown i.question.now i.policy.now i.indifferent i.closure i.choices.items i.watched i.states.tables c.chosen.new.states.tables i.start c.chosen.ensures.grows c.self.invariant

pub invariant_of-self-2 : goal.invariant_of-self-2
invariant_of-self-2 g c =
    let i = c.self.inside in
    space_grown i.question.now i.policy.now i.indifferent i.closure i.choices.items i.watched i.states.tables c.chosen.new.states.tables i.start c.chosen.ensures.grows c.self.invariant

-- where the policy makes no difference before a choice, it makes none after its events
pub returns-clause-held : goal.returns-clause-held
returns-clause-held g c =
    let i = c.self.inside in
    let asked = rw (← c.self.view_is) at c.requires.held in
    let s = state_in i.states.tables c.args.from.now in
    record {
      held = c.in-Ok.ensures.held;
      is_known = λ known. subst (λ (t : State). IsIndifferent i.question.now i.policy.now t) (sym c.in-Ok.ensures.means)
          (indifferent-run c.integrity.ensures i.question.now i.policy.now s (choice_events (watch_of i.watched) s c.index-choice.result.now) (asked.is_known known));
    }

pub returns-clause-keeps : goal.returns-clause-keeps
returns-clause-keeps g c =
    let i = c.self.inside in
    rw (← c.self.view_is) (keeps_grown i.question.now i.policy.now i.indifferent i.states.tables c.chosen.new.states.tables i.start c.chosen.ensures.grows c.self.invariant.held)

pub returns-clause-means : goal.returns-clause-means
returns-clause-means g c =
    let i = c.self.inside in
    let kept = c.self.invariant in
    let choice = c.index-choice.result.now in
    let asked = rw (← c.self.view_is) at c.requires.choice in
    let within : c.args.choice < length i.choices.items = omega (arith, asked, ap length kept.given) in
    rw (← c.self.view_is)
    (next-means i.question.now (watch_of i.watched) i.choices.items c.args.choice choice choice (state_in i.states.tables c.args.from.now) (state_in c.chosen.new.states.tables c.in-Ok.key) kept.watches kept.given within
    c.index-choice.ensures c.in-Ok.ensures.means)

-- ---- how many slots are read

pub returns-in_default-clause-spends : goal.returns-in_default-clause-spends
returns-in_default-clause-spends g c =
    let i = c.self.inside in
    let kept = c.self.invariant in
    let choice = c.index-choice.result.now in
    let asked = rw (← c.self.view_is) at c.requires.choice in
    let within : c.args.choice < length i.choices.items = omega (arith, asked, ap length kept.given) in
    rw (← c.self.view_is)
    (choice-spent i.question.now (watch_of i.watched) i.choices.items c.args.choice choice choice (state_in i.states.tables c.args.from.now) kept.watches kept.given within c.index-choice.ensures
    c.chosen.ensures.least c.chosen.ensures.most)

pub returns-clause-spends : goal.returns-clause-spends
returns-clause-spends g c =
    let i = c.self.inside in
    let kept = c.self.invariant in
    let choice = c.index-choice.result.now in
    let asked = rw (← c.self.view_is) at c.requires.choice in
    let within : c.args.choice < length i.choices.items = omega (arith, asked, ap length kept.given) in
    rw (← c.self.view_is)
    (choice-spent i.question.now (watch_of i.watched) i.choices.items c.args.choice choice choice (state_in i.states.tables c.args.from.now) kept.watches kept.given within c.index-choice.ensures
    c.chosen.ensures.least c.chosen.ensures.most)
