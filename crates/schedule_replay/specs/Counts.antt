-- How many events there were, and how many records of four kinds.
use Rattle.std.specs.Prelude.{◌≤◌, ◌+◌, ℕ, Bool, true, false, if◌then◌else◌, List, [], ◌∷◌, length}
use Rattle.machine_state.specs.declared.event.Event.{Event}
use Rattle.machine_state.specs.declared.record.Record.{Record}
use Rattle.machine_state.specs.declared.record.Record.TheVariants as records
use Rattle.kernel_core.specs.State.{State}
use Rattle.kernel_core.specs.Run.{run_records}
use Rattle.schedule_replay.specs.declared.counts.Counts.{Counts}

-- a message that was delivered
abbrev pub is_message : Record → Bool
is_message (records.Message from to endpoint payload words len caps) = true
is_message _ = false

-- a fault, whether it was heard or not
abbrev pub is_fault : Record → Bool
is_fault (records.Fault process code address to) = true
is_fault _ = false

-- bytes that were logged
abbrev pub is_log : Record → Bool
is_log (records.Log process bytes) = true
is_log _ = false

-- an object that was destroyed
abbrev pub is_destroy : Record → Bool
is_destroy (records.Destroy kind number) = true
is_destroy _ = false

-- how many records are of a kind
unfoldable pub how_many : (Record → Bool) → List Record → ℕ
how_many test [] = 0
how_many test (entry ∷ entries) = (if test entry then 1 else 0) + how_many test entries

-- so many events more, with these records
abbrev pub and_more : Counts → ℕ → List Record → Counts
and_more counts events told = record {
  events = counts.events + events;
  messages = counts.messages + how_many is_message told;
  faults = counts.faults + how_many is_fault told;
  logs = counts.logs + how_many is_log told;
  destroys = counts.destroys + how_many is_destroy told;
}

-- so many events, and no record
abbrev pub events_alone : ℕ → Counts
events_alone events = record { events = events; messages = 0; faults = 0; logs = 0; destroys = 0 }

-- the counts of a run of these events
abbrev pub counts_of : State → List Event → Counts
counts_of s events = and_more (events_alone 0) (length events) (run_records s events)

-- no number is above this one
pub record AreAtMost (most : ℕ) (counts : Counts) : Type 0 where
  pub events : counts.events ≤ most
  pub messages : counts.messages ≤ most
  pub faults : counts.faults ≤ most
  pub logs : counts.logs ≤ most
  pub destroys : counts.destroys ≤ most
