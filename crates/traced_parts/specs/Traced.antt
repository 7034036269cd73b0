-- What a part of an event does where all records are kept: they are appended.
use Rattle.std.specs.Prelude.{◌≡◌, ◌≢◌, ℕ, ◌+◌, ◌++◌, List, Some}
use Rattle.schedules.specs.Queues.{hart_of}
use Rattle.walk_engine.specs.declared.translator.Translator.{Ghosts as Translator}
use Rattle.machine_state.specs.declared.record.Record.{Record}
use Rattle.machine_state.specs.Machine.{MachineValue}
use Rattle.machine_state.specs.State.{state_of}
use Rattle.machine_state.specs.Outcome.{Outcome, spent, kept_after, spared_by}

-- The outcome `o` came of a part that process `p` performs, which found the machine `m`, these records and this many slots
-- fetched, and left others: its state, its records behind those that were there, as many slots more as its touches fetch by
-- what the translator kept, and what it keeps after them. The caches of the harts on which the process is not are as touches
-- elsewhere leave them.
pub record CameTraced {T : Type 0} (t : Translator T) (p : ℕ) (o : Outcome)
    (m : MachineValue T) (records0 : List Record) (fetches0 : ℕ)
    (n : MachineValue T) (records1 : List Record) (fetches : ℕ) : Type 0 where
  pub state : state_of n ≡ o.state
  pub records : records1 ≡ records0 ++ o.records
  pub counted : fetches ≡ fetches0 + spent t.cost t.after t.without (t.kept m.translator) o.touches
  pub keeps : t.kept n.translator ≡ kept_after t.cost t.after t.without (t.kept m.translator) o.touches
  pub others : (k : ℕ) → hart_of m.queues k ≢ Some p
      → t.cache n.translator k ≡ spared_by t.after t.without t.spared t.purged (t.kept m.translator) o.touches (t.cache m.translator k)
