-- A list of records is told all that any observer is told.
use Rattle.std.proofs.Common.{ℕ, ◌++◌, ◌∷◌, [], List, ap, ◌∙◌}
use Rattle.walk_engine.specs.declared.translator.Translator.{Ghosts as Translator}
use Rattle.machine_state.specs.declared.observer.Observer.{Ghosts as Observer}
use Rattle.machine_state.specs.declared.record.Record.{Record}
use Rattle.machine_state.specs.Machine.{MachineValue}
use Rattle.machine_state.specs.Outcome.{Outcome}
use Rattle.machine_state.specs.Came.{Came}
use Rattle.machine_state.proofs.Noted.{noted-all}
use Rattle.traced_parts.specs.Traced.{CameTraced}

-- a list of records, as an observer: it keeps all
abbrev trace : Observer (List Record)
trace = record { told = λ records. records; notes = λ entry. entry ∷ [] }

-- so what it is told is appended
pub came_traced : {T : Type 0} (t : Translator T) (p : ℕ) (o : Outcome) (m : MachineValue T) (records0 : List Record) (fetches0 : ℕ) (n : MachineValue T) (records1 : List Record) (fetches : ℕ)
    → Came t trace p o m records0 fetches0 n records1 fetches → CameTraced t p o m records0 fetches0 n records1 fetches
came_traced t p o m records0 fetches0 n records1 fetches came = record {
  state = came.state;
  records = came.records ∙ ap (λ told. records0 ++ told) (noted-all o.records);
  counted = came.counted;
  keeps = came.keeps;
  others = came.others;
}
