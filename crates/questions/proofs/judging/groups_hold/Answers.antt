use Rattle.std.proofs.Common.{◌∙◌, false, sym}
use Rattle.machine_state.specs.State.{State, state_of}
use Rattle.questions.specs.Atom.{crosses}
use Rattle.questions.proofs.About.{any-alike, indifferent-any}
use Rattle.questions.proofs.judging.groups_hold.Goals as goal

pub returns-then-indifferent-clause-value : goal.returns-then-indifferent-clause-value
returns-then-indifferent-clause-value g c =
    let s : State = state_of c.args.machine.now in
    c.any_holds.ensures.value
    ∙ indifferent-any c.args.policy.now s c.tell_uncrossed.ensures c.args.groups.now (c.requires.indifferent c.if-indifferent.true)

pub returns-clause-value : goal.returns-clause-value
returns-clause-value g c =
    let s : State = state_of c.args.machine.now in
    c.any_holds-2.ensures.value
    ∙ any-alike false (crosses c.args.policy.now s) s c.args.groups.now (sym c.are_about_policy.ensures ∙ c.if-are_about_policy.false)
