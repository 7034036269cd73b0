use Rattle.std.proofs.Common.{List, ◌++◌, ap, ◌∙◌}
use Rattle.std.proofs.lemmas.List.{take_all}
use Rattle.machine_state.specs.declared.taking.Name.{Name}
use Rattle.state_parts.proofs.going.mark_all.Goals as goal

pub returns : goal.returns
returns c = c.loop-i.invariant ∙ ap (λ (xs : List Name). c.args.marked.now.items ++ xs) (take_all c.loop-i.i c.args.names.now c.loop-i-test.false)
