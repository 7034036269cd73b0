use Rattle.std.proofs.Common.{◌≡◌, List, sym, subst, ◌∙◌}
use Rattle.std.proofs.lemmas.List.{take_all}
use Rattle.machine_state.specs.declared.taking.Name.{Name}
use Rattle.machine_state.specs.Taking.{names_of}
use Rattle.state_parts.specs.Looking.{HasAll}
use Rattle.state_parts.proofs.performing.write_all.Goals as goal

pub returns-clause-items : goal.returns-clause-items
returns-clause-items c = c.each.invariant.items ∙ take_all c.each.i c.args.names.now c.each-test.false

pub returns-clause-all : goal.returns-clause-all
returns-clause-all c =
    let Has : List Name → Type 0 = λ xs. HasAll (names_of c.args.names.now) (names_of xs) in
    let whole : c.each.marked.items ≡ c.args.names.now = c.each.invariant.items ∙ take_all c.each.i c.args.names.now c.each-test.false in
    subst Has (sym whole) (record { each = λ kind n among. among })
