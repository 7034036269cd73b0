use Rattle.std.proofs.Common.{◌≡◌, ◌+◌, ◌-◌, ◌≤◌}
use Rattle.machine_state.specs.State.{state_of}
use Rattle.quiet_finding.specs.Reaching.{IsReaching}
use Rattle.quiet_finding.specs.Walks.{AreKeptOn}
use Rattle.quiet_finding.specs.Watched.{watch_of}
use Rattle.quiet_runs.specs.Finding.{quiet_steps, quiet_within}
use Rattle.state_choices.specs.Slots.{looks_slots}
use Rattle.state_choices.proofs.Quiet.{HasGone}
use Rattle.state_choices.proofs.choosing.perform_quiet.Given as goal

abbrev pub invariant-quiet : goal.invariant-quiet
invariant-quiet g l = record {
  tables : l.states.tables ≡ l.fn.states.tables;
  reaching : IsReaching (state_of l.states.machine).store l.reaching;
  walks : AreKeptOn (state_of l.states.machine) l.hart l.walks;
  gone : HasGone (watch_of l.watched) l.hart 4096 (state_of l.fn.states.machine) (state_of l.states.machine) l.performed;
  least : l.fn.fetches ≤ l.fetches;
  slots :
      l.fetches + looks_slots l.hart (quiet_within (4096 - l.performed) (watch_of l.watched) (state_of l.states.machine) l.hart) (state_of l.states.machine)
      ≤ l.fn.fetches + looks_slots l.hart (quiet_steps (watch_of l.watched) (state_of l.fn.states.machine) l.hart) (state_of l.fn.states.machine);
}
