use Rattle.std.proofs.Common.{◌≡◌, ◌+◌, ◌-◌, ◌≤◌}
use Rattle.machine_state.specs.State.{state_of}
use Rattle.state_choices.specs.Slots.{steps_slots}
use Rattle.state_choices.specs.Steps.{after_steps}
use Rattle.state_choices.proofs.choosing.perform_steps.Given as goal

abbrev pub invariant-steps : goal.invariant-steps
invariant-steps g l = record {
  tables : l.states.tables ≡ l.fn.states.tables;
  state : after_steps l.hart (l.times - l.performed) (state_of l.states.machine) ≡ after_steps l.hart l.times (state_of l.fn.states.machine);
  least : l.fn.fetches ≤ l.fetches;
  slots : l.fetches + steps_slots l.hart (l.times - l.performed) (state_of l.states.machine) ≤ l.fn.fetches + steps_slots l.hart l.times (state_of l.fn.states.machine);
}
