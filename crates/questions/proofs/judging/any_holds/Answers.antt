use Rattle.std.proofs.Common.{◌∙◌, ◌<◌, List, length, sym, ap, arith}
use Rattle.std.proofs.Math.ListN.{drop_of_length-le}
use Rattle.std.proofs.lemmas.List.{get_or_read}
use Rattle.machine_state.specs.State.{State, state_of}
use Rattle.questions.specs.declared.atom.Atom.{Atom}
use Rattle.questions.specs.Atom.{all_hold}
use Rattle.questions.specs.Question.{any_holds}
use Rattle.questions.proofs.Groups.{any-here}
use Rattle.questions.proofs.judging.any_holds.Goals as goal

pub returns-then-all_hold-clause-value : goal.returns-then-all_hold-clause-value
returns-then-all_hold-clause-value g c =
    let s : State = state_of c.args.machine.now in
    let groups = c.args.groups.now in
    let x = c.index-groups-i.result in
    let within : c.each.i < length groups = omega arith in
    let at = get_or_read groups c.each.i x within c.index-groups-i.is x in
    let held = sym (c.all_hold.ensures.value ∙ ap (λ (atoms : List Atom). all_hold c.args.crossing s atoms) (c.atoms.ensures ∙ at)) ∙ c.if-all_hold.true in
    sym (c.each.invariant.left ∙ any-here c.args.crossing s groups c.each.i x within held)

pub returns-clause-value : goal.returns-clause-value
returns-clause-value g c =
    let s : State = state_of c.args.machine.now in
    let none = drop_of_length-le c.args.groups.now (omega arith) in
    sym (c.each.invariant.left ∙ ap (any_holds c.args.crossing s) none)
