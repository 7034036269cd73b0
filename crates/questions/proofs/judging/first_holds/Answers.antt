use Rattle.std.proofs.Common.{◌∙◌, ◌<◌, [], List, length, sym, ap, subst, arith}
use Rattle.std.specs.List.{All}
use Rattle.object_store.specs.declared.sizes.Sizes.{Sizes}
use Rattle.machine_state.specs.State.{State, state_of}
use Rattle.questions.specs.declared.asks.Asks.TheVariants.{Never}
use Rattle.questions.specs.declared.atom.Atom.{Atom}
use Rattle.questions.specs.Atom.{IsAtomOf, crosses}
use Rattle.questions.specs.Question.{IsPropertyOf, MakesNoDifference, PropertyValue, any_holds, are_about_policy, property_of}
use Rattle.questions.proofs.About.{indifferent-first_groups, read-there}
use Rattle.questions.proofs.Groups.{first-range}
use Rattle.questions.proofs.judging.first_holds.Goals as goal

pub groups_hold-requires-clause-range : goal.groups_hold-requires-clause-range
groups_hold-requires-clause-range g c =
    let sizes = c.args.question.now.sizes in
    let p = c.index-properties-property.result in
    let within : c.args.property < length c.properties.result.now = omega (arith, c.requires.there, ap length c.properties.ensures.value) in
    let range = subst (IsPropertyOf sizes) (sym c.index-properties-property.is) (c.properties.ensures.range c.args.property p within) in
    subst (λ (sizes : Sizes). All (All (IsAtomOf sizes)) c.first.result.now) c.requires.sizes
    (subst (All (All (IsAtomOf sizes))) (sym c.first.ensures) (first-range sizes p range))

pub groups_hold-requires-clause-indifferent : goal.groups_hold-requires-clause-indifferent
groups_hold-requires-clause-indifferent g c is =
    let s : State = state_of c.args.machine.now in
    let d = property_of 0 Never [] in
    let there = read-there c.args.question.now.properties _ c.args.property _ d c.properties.ensures.value c.requires.there c.index-properties-property.is in
    subst (λ (groups : List (List Atom)). MakesNoDifference (are_about_policy groups) c.args.policy.now s)
    (sym (c.first.ensures ∙ ap (λ (p : PropertyValue). p.first) there))
    (indifferent-first_groups c.args.question.now c.args.policy.now s c.args.property d c.requires.there (c.requires.indifferent is))

pub returns-clause-value : goal.returns-clause-value
returns-clause-value g c =
    let s : State = state_of c.args.machine.now in
    let d = property_of 0 Never [] in
    let there = read-there c.args.question.now.properties _ c.args.property _ d c.properties.ensures.value c.requires.there c.index-properties-property.is in
    c.groups_hold.ensures.value
    ∙ ap (λ (groups : List (List Atom)). any_holds (crosses c.args.policy.now s) s groups) (c.first.ensures ∙ ap (λ (p : PropertyValue). p.first) there)
