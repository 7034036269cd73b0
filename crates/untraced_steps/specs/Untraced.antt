-- What comes of steps of which no trace is kept: the same as of events, but for records of accesses and instructions.
use Rattle.std.specs.Prelude.{◌≡◌, ℕ, ◌+◌, List, []}
use Rattle.cap_format.specs.Capability.{Capability}
use Rattle.cap_format.specs.declared.item.Item.{Item}
use Rattle.object_store.specs.Store.{Items, sizes_of}
use Rattle.walk_meaning.specs.declared.kind.Kind.{Kind}
use Rattle.machine_state.specs.declared.event.Event.{Event}
use Rattle.machine_state.specs.declared.record.Record.{Record}
use Rattle.machine_state.specs.Machine.{MachineValue}
use Rattle.machine_state.specs.State.{State, state_of}
use Rattle.machine_state.specs.Noted.{untraced}
use Rattle.machine_state.specs.Outcome.{Outcome, spent, kept_after}
use Rattle.kernel_core.specs.Run.{run_state, run_records, run_touches}

-- The outcome `o` came of a part that found the machine `m` and so many slots fetched, and left `n`, `told` and `fetches`:
-- its records are told, but for those of accesses and instructions. There are as many harts and objects as before.
pub record CameUntraced {T K : Type 0} (kept : T → K) (cost : K → Items → Capability → ℕ → Kind → ℕ) (after : K → Items → Capability → ℕ → Kind → K) (without : K → Item → K)
    (o : Outcome) (m : MachineValue T) (fetches0 : ℕ) (n : MachineValue T) (told : List Record) (fetches : ℕ) : Type 0 where
  pub state : state_of n ≡ o.state
  pub records : told ≡ untraced o.records
  pub counted : fetches ≡ fetches0 + spent cost after without (kept m.translator) o.touches
  pub keeps : kept n.translator ≡ kept_after cost after without (kept m.translator) o.touches
  pub harts : n.objects.harts ≡ m.objects.harts
  pub sizes : sizes_of n.objects ≡ sizes_of m.objects

-- A machine ran these events: its state, what they told but for records of accesses and instructions, the slots that it
-- fetched, and what its translator keeps. There are as many harts and objects as before.
pub record RanUntraced {T K : Type 0} (kept : T → K) (cost : K → Items → Capability → ℕ → Kind → ℕ) (after : K → Items → Capability → ℕ → Kind → K) (without : K → Item → K)
    (events : List Event) (m : MachineValue T) (fetches0 : ℕ) (n : MachineValue T) (told : List Record) (fetches : ℕ) : Type 0 where
  pub state : state_of n ≡ run_state (state_of m) events
  pub records : told ≡ untraced (run_records (state_of m) events)
  pub counted : fetches ≡ fetches0 + spent cost after without (kept m.translator) (run_touches (state_of m) events)
  pub keeps : kept n.translator ≡ kept_after cost after without (kept m.translator) (run_touches (state_of m) events)
  pub harts : n.objects.harts ≡ m.objects.harts
  pub sizes : sizes_of n.objects ≡ sizes_of m.objects

-- these events tell nothing but accesses and instructions
abbrev pub TellsNothing : State → List Event → Type 0
TellsNothing s events = untraced (run_records s events) ≡ []
