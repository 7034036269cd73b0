-- What is remembered of a machine before an event, and which objects it has to have. (This project's.)
use Rattle.std.specs.Prelude.{◌≡◌, ℕ, ◌<◌, ◌≤◌, Bool, if◌then◌else◌, List}
use Rattle.cap_format.specs.declared.kind.CapKind.{CapKind}
use Rattle.cap_format.specs.declared.kind.CapKind.TheVariants.{Page, Gpt, Process}
use Rattle.object_store.specs.Store.{Store, size_of, sizes_of}
use Rattle.object_store.specs.Object.{ObjectName, IsAmong}
use Rattle.object_store.specs.Saved.{AreThere}
use Rattle.schedules.specs.Queues.{QueuesValue}
use Rattle.machine_state.specs.declared.places.Place.{Place}
use Rattle.machine_state.specs.Machine.{MachineValue}
use Rattle.machine_state.specs.State.{State}
use Rattle.machine_state.specs.Past.{PastValue, names_in, used, IsFor, Holds}

-- it stands for the present state of the machine, and for objects that are there: their copies, the queues with the harts,
-- and whether the machine is halted
pub record StandsFor {T : Type 0} (past : PastValue) (m : MachineValue T) : Type 0 where
  pub sizes : IsFor past (sizes_of m.objects)
  pub holds : Holds past m.objects
  pub there : AreThere m.objects (names_in past)
  pub queues : past.queues ≡ m.queues
  pub halted : past.halted ≡ m.halted

-- each of these objects that is there is among those that are remembered
pub record Remembers (past : PastValue) (s : Store) (names : List ObjectName) : Type 0 where
  pub each : (kind : CapKind) (n : ℕ) → n < size_of s.items kind → IsAmong kind n names → IsAmong kind n (names_in past)

-- there is a place for one more object of this kind: each process has its own, and of the others 18 pages and one of each
-- kind have one
abbrev pub HasPlace : CapKind → List Place → Type 0
HasPlace Process places = Unit {0}
HasPlace Page places = used Page places < 18
HasPlace kind places = used kind places < 1

-- at most one of the objects that are remembered is a GPT
abbrev pub AtMostOneGpt : PastValue → Type 0
AtMostOneGpt past = used Gpt past.places ≤ 1

-- what is remembered of one event: a past, and whether it is whole. Where it is not, its objects alone count
pub record MementoValue : Type 0 where
  pub past : PastValue
  pub whole : Bool

-- the queues with the harts before an event, by those behind it
abbrev pub queues_before : MementoValue → QueuesValue → QueuesValue
queues_before kept queues = if kept.whole then kept.past.queues else queues

-- whether the machine was halted before an event, by whether it is behind it
abbrev pub halted_before : MementoValue → Bool → Bool
halted_before kept halted = if kept.whole then kept.past.halted else halted

-- of an event that leaves this state it leads back to the machine that was before: by the copies of objects that are there,
-- and by the queues and the flag that are remembered or have stayed
pub record LeadsBack {T : Type 0} (kept : MementoValue) (m : MachineValue T) (after : State) : Type 0 where
  pub sizes : IsFor kept.past (sizes_of m.objects)
  pub holds : Holds kept.past m.objects
  pub there : AreThere m.objects (names_in kept.past)
  pub queues : queues_before kept after.queues ≡ m.queues
  pub halted : halted_before kept after.halted ≡ m.halted
