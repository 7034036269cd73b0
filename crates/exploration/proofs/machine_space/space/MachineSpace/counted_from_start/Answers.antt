use Rattle.std.proofs.Common.{◌∙◌, List, ap, arith, sym, subst}
use Rattle.std.specs.List.{All}
use Rattle.questions.specs.declared.choice.Choice.{Choice}
use Rattle.questions.specs.Choice.{AreChoices, IsChoiceOf}
use Rattle.quiet_finding.specs.Watched.{watch_of}
use Rattle.questions.specs.Question.{watch_for}
use Rattle.state_parts.specs.Space.{state_in}
use Rattle.state_choices.proofs.Slots.{all_slots-held}
use Rattle.exploration.proofs.Shown.{path-range, when-ok}
use Rattle.exploration.proofs.Slots.{path-same}
use Rattle.exploration.proofs.machine_space.space.MachineSpace.counted_from_start.Goals as goal

pub returns-clause-range : goal.returns-clause-range
returns-clause-range g c =
    let harts = c.args.question.now.sizes.harts in
    let path = c.args.path.now in
    let all = subst (λ (choices : List Choice). All (IsChoiceOf harts) choices) (sym c.as_slice.ensures.value) c.in_ok-choices.ensures.range in
    let are = subst (λ (choices : List Choice). AreChoices choices path) (sym (c.as_slice.ensures.value ∙ c.in_ok-choices.ensures.value)) c.requires.path in
    when-ok c.counted.result c.counted.ensures.counted (λ list is. subst (λ (choices : List Choice). All (IsChoiceOf harts) choices) (sym is) (path-range harts _ c.as_slice.result.now _ path all are))

-- ---- how many slots are read

pub returns-in_err-go-clause-most : goal.returns-in_err-go-clause-most
returns-in_err-go-clause-most g c =
    let i = c.self.inside in
    let all = all_slots-held i.states.tables i.start c.self.invariant.held in
    let went = c.go.ensures.most in
    rw (← c.self.view_is) (omega (arith, all, went))

pub returns-clause-most : goal.returns-clause-most
returns-clause-most g c =
    let i = c.self.inside in
    let all = all_slots-held i.states.tables i.start c.self.invariant.held in
    let went = c.go.ensures.most in
    let made = c.counted.ensures.most in
    let same =
    path-same c.args.question.now _ _ (state_in i.states.tables i.start) _ c.args.path.now (ap watch_of c.in_ok-watched.ensures ∙ ap watch_for c.properties.ensures.value) (c.as_slice.ensures.value ∙ c.in_ok-choices.ensures.value)
    c.in_ok-go.ensures.state in
    rw (← c.self.view_is) (omega (arith, all, went, made, same))
