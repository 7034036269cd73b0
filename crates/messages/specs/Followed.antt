-- One part of an event behind another.
use Rattle.std.specs.Prelude.{◌++◌}
use Rattle.machine_state.specs.Outcome.{Outcome}

-- what comes of two parts, where the second goes on from the state that the first leaves
abbrev pub followed : Outcome → Outcome → Outcome
followed first second = record {
  state = second.state;
  records = first.records ++ second.records;
  touches = first.touches ++ second.touches;
  changed = first.changed ++ second.changed;
}
