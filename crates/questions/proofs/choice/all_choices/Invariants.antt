use Rattle.std.proofs.Common.{◌≡◌, ◌++◌}
use Rattle.std.specs.List.{All}
use Rattle.questions.specs.Choice.{IsChoiceOf, step_below, tick_below}
use Rattle.questions.proofs.choice.all_choices.Given as goal

abbrev pub invariant-steps : goal.invariant-steps
invariant-steps l = record {
  value : l.choices.items ≡ step_below l.hart;
  range : All (IsChoiceOf l.harts) l.choices.items;
}

abbrev pub invariant-ticks : goal.invariant-ticks
invariant-ticks l = record {
  value : l.choices.items ≡ step_below l.harts ++ tick_below l.hart;
  range : All (IsChoiceOf l.harts) l.choices.items;
}
