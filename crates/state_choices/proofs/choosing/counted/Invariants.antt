use Rattle.std.proofs.Common.{◌≡◌, ◌+◌, ◌≤◌, drop}
use Rattle.machine_state.specs.State.{state_of}
use Rattle.quiet_finding.specs.Watched.{watch_of}
use Rattle.state_choices.specs.Slots.{path_slots}
use Rattle.state_choices.proofs.Counting.{IsCounting}
use Rattle.state_choices.proofs.choosing.counted.Given as goal

abbrev pub invariant-each : goal.invariant-each
invariant-each g l = record {
  tables : l.states.tables ≡ l.fn.states.tables;
  counting : IsCounting (watch_of l.watched) l.choices (state_of l.fn.states.machine) l.path (state_of l.states.machine) l.place l.counted.items;
  least : l.fn.fetches ≤ l.fetches;
  slots : l.fetches + path_slots (watch_of l.watched) l.choices (state_of l.states.machine) (drop l.place l.path) ≤ l.fn.fetches + path_slots (watch_of l.watched) l.choices (state_of l.fn.states.machine) l.path;
}
