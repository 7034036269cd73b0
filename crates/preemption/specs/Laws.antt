-- The laws of preemption, as statements.
use Rattle.std.specs.Prelude.{◌≡◌, ◌↔◌, ℕ, ◌<◌, Bool, false, List, [], ◌∷◌, length, None}
use Rattle.std.specs.List.{All}
use Rattle.schedules.specs.Queues.{QueuesValue, priorities, ready_queue, hart_of}
use Rattle.machine_state.specs.declared.event.Event.{Event}
use Rattle.machine_state.specs.Machine.{hart_in}
use Rattle.machine_state.specs.State.{State, IsOnHart}
use Rattle.kernel_core.specs.Run.{run_state, run_records}
use Rattle.independence.specs.Rewrite.{SameButData}
use Rattle.preemption.specs.Wide.{Spread, IsForEach}
use Rattle.preemption.specs.Turns.{AreTurns, steps_of, InTurns, StaysForEach}
use Rattle.machine_state.specs.Home.{at_home}
use Rattle.preemption.specs.Begun.{at_rest, with_idle}

-- the events are of harts below this number
abbrev pub AreOf : ℕ → List Event → Type 0
AreOf harts es = All (λ e. hart_in e < harts) es

-- One event is at most one turn.
abbrev pub EventLaw : Type 0
EventLaw = (few many : ℕ) (s w : State) (e : Event)
    → Spread few many s w → IsForEach many w
    → hart_in e < few
    → InTurns few many s (e ∷ []) w

-- A run is a list of turns.
abbrev pub RunLaw : Type 0
RunLaw = (few many : ℕ) (s w : State) (es : List Event)
    → Spread few many s w → StaysForEach many w
    → AreOf few es
    → InTurns few many s es w

-- nobody is on a hart or in a ready queue
pub record NobodyGoesOn (q : QueuesValue) : Type 0 where
  pub harts : (hart : ℕ) → hart_of q hart ≡ None
  pub ready : (priority : ℕ) → ready_queue q priority ≡ []

-- Two states are the same but for places: for how many harts there are, and for who is on which
-- hart or in which ready queue. Nobody goes on in the one exactly where nobody does in the other.
pub record SameButPlaces (s t : State) : Type 0 where
  pub items : s.store.items ≡ t.store.items
  pub contents : s.store.contents ≡ t.store.contents
  pub sleepers : s.queues.sleepers ≡ t.queues.sleepers
  pub halted : s.halted ≡ t.halted
  pub queues : (length s.queues.ready ≡ priorities) × (length t.queues.ready ≡ priorities)
  pub stuck : NobodyGoesOn s.queues ↔ NobodyGoesOn t.queues

-- what is asked of a state depends on no place
abbrev pub SeesNoPlaces : (State → Bool) → Type 0
SeesNoPlaces test = (s t : State) → SameButPlaces s t → test s ≡ test t

-- What holds after no turns holds after no events.
abbrev pub NeverLaw : Type 0
NeverLaw = (few many : ℕ) (test : State → Bool) (s w : State)
    → Spread few many s w → StaysForEach many w → SeesNoPlaces test
    → ((ps : List ℕ) → AreTurns w ps → test (run_state w (steps_of ps)) ≡ false)
    → (es : List Event) → AreOf few es → test (run_state s es) ≡ false

-- Nobody goes on in the one machine exactly where nobody does in the other.
abbrev pub StuckLaw : Type 0
StuckLaw = (few many : ℕ) (s w : State) → Spread few many s w
    → NobodyGoesOn s.queues ↔ NobodyGoesOn w.queues

-- A state is spread to one where each process that is on a hart is moved to the hart of its own
-- number, if there is one for each of them.
abbrev pub StartLaw : Type 0
StartLaw = (many : ℕ) (s : State) → ((p : ℕ) → IsOnHart s.queues p → p < many)
    → Spread (length s.queues.harts) many s (at_home many s)

-- A state in which all harts are idle is spread as it is.
abbrev pub RestLaw : Type 0
RestLaw = (many : ℕ) (s : State) → ((hart : ℕ) → hart_of s.queues hart ≡ None)
    → Spread (length s.queues.harts) many s (at_rest many s)

-- a run does in a machine with more harts, which are idle, what it does without them, and they
-- stay idle
pub record LeavesIdle (many more : ℕ) (s : State) (es : List Event) : Type 0 where
  pub state : run_state (with_idle many more s) es ≡ with_idle many more (run_state s es)
  pub records : run_records (with_idle many more s) es ≡ run_records s es

-- Idle harts change no run of the others.
abbrev pub MoreLaw : Type 0
MoreLaw = (many more : ℕ) (s : State) (es : List Event) → AreOf (length s.queues.harts) es
    → LeavesIdle many more s es

-- Whether there is a hart for each process, and whether those on harts run and have schedules,
-- depends on no data: on nothing that a quiet step changes.
abbrev pub SeesLaw : Type 0
SeesLaw = (many : ℕ) (s t : State) → SameButData s t → IsForEach many s → IsForEach many t
