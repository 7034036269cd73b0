-- What a part of an event does to a machine: what came of it, and what it leaves alone.
use Rattle.std.specs.Prelude.{◌≡◌, ◌≢◌, ℕ, ◌+◌, ◌++◌, List, Some}
use Rattle.cap_format.specs.declared.kind.CapKind.TheVariants.{Page, CapPage, Gpt, Process, Endpoint}
use Rattle.object_store.specs.Store.{size_of}
use Rattle.object_store.specs.Object.{ObjectName, Stays}
use Rattle.schedules.specs.Queues.{hart_of}
use Rattle.walk_engine.specs.declared.translator.Translator.{Ghosts as Translator}
use Rattle.machine_state.specs.declared.observer.Observer.{Ghosts as Observer}
use Rattle.machine_state.specs.Machine.{MachineValue}
use Rattle.machine_state.specs.State.{state_of}
use Rattle.machine_state.specs.Noted.{noted}
use Rattle.machine_state.specs.Outcome.{Outcome, spent, kept_after, spared_by}

-- The outcome `o` came of a part of an event that process `p` performs, which found the machine `m`, an observer and this
-- many slots fetched, and left `n`, `told` and `fetches`: its state, what the observer keeps of its records behind what it
-- kept before, as many slots more as its touches fetch by what the translator kept, and what it keeps after them. The
-- caches of the harts on which the process is not are as touches elsewhere leave them.
pub record Came {T S : Type 0} (t : Translator T) (w : Observer S) (p : ℕ) (o : Outcome)
    (m : MachineValue T) (told0 : S) (fetches0 : ℕ)
    (n : MachineValue T) (told : S) (fetches : ℕ) : Type 0 where
  pub state : state_of n ≡ o.state
  pub records : w.told told ≡ w.told told0 ++ noted w.notes o.records
  pub counted : fetches ≡ fetches0 + spent t.cost t.after t.without (t.kept m.translator) o.touches
  pub keeps : t.kept n.translator ≡ kept_after t.cost t.after t.without (t.kept m.translator) o.touches
  pub others : (k : ℕ) → hart_of m.queues k ≢ Some p
      → t.cache n.translator k ≡ spared_by t.after t.without t.spared t.purged (t.kept m.translator) o.touches (t.cache m.translator k)

-- The outcome `o` came of a part that asks the translator nothing.
pub record CameUnasked {T S : Type 0} (w : Observer S) (o : Outcome)
    (m : MachineValue T) (told0 : S)
    (n : MachineValue T) (told : S) : Type 0 where
  pub state : state_of n ≡ o.state
  pub records : w.told told ≡ w.told told0 ++ noted w.notes o.records
  pub translator : n.translator ≡ m.translator

-- What every part leaves alone, where these objects may change: how many objects and harts there are, and each other
-- object as it is stored, its dead capabilities included.
pub record Leaves {T : Type 0} (names : List ObjectName) (m n : MachineValue T) : Type 0 where
  pub pages : size_of n.objects.items Page ≡ size_of m.objects.items Page
  pub cappages : size_of n.objects.items CapPage ≡ size_of m.objects.items CapPage
  pub gpts : size_of n.objects.items Gpt ≡ size_of m.objects.items Gpt
  pub processes : size_of n.objects.items Process ≡ size_of m.objects.items Process
  pub endpoints : size_of n.objects.items Endpoint ≡ size_of m.objects.items Endpoint
  pub harts : n.objects.harts ≡ m.objects.harts
  pub stays : Stays names m.objects n.objects
