-- What the lines behind a listing come to as they are read: the machine runs their events, and the records are written.
use Rattle.std.specs.Prelude.{◌≡◌, ◌≢◌, ◌+◌, ◌<◌, ◌≤◌, ℕ, List, [], ◌∷◌, ◌++◌, length, take, Option}
use Rattle.std.specs.Io.KnownBytes.{Appends}
use Rattle.cap_format.specs.Capability.{Capability}
use Rattle.cap_format.specs.declared.item.Item.{Item}
use Rattle.coy_io.specs.Causes.{Rose}
use Rattle.coy_io.specs.Reader.{Reader, ahead}
use Rattle.object_store.specs.Store.{Items, sizes_of}
use Rattle.walk_meaning.specs.declared.kind.Kind.{Kind}
use Rattle.machine_state.specs.declared.event.Event.{Event}
use Rattle.kernel_core.specs.Machine.{MachineValue}
use Rattle.kernel_core.specs.Outcome.{spent, kept_after}
use Rattle.kernel_core.specs.Run.{run_state, run_touches}
use Rattle.kernel_core.specs.State.{State, state_of}
use Rattle.schedule_replay.specs.Counts.{counts_of, events_alone}
use Rattle.schedule_replay.specs.Lines.{FailsOn}
use Rattle.schedule_replay.specs.Scheduled.{Scheduled, Ending, AtEnd, AtFault, AtLimit, OnParts, scheduled, ends, preceded}
use Rattle.schedule_replay.specs.Told.{lines_told}
use Rattle.schedule_replay.specs.declared.counts.Counts.{Counts}
use Rattle.listing_read.specs.declared.fault.ScheduleFault.{ScheduleFault}
use Rattle.judged_lines.specs.declared.stop.Stop.{Stop}
use Rattle.judged_lines.specs.declared.stop.Stop.TheVariants as stops
use Rattle.schedule_replay.specs.declared.mode.Mode.{Mode}
use Rattle.schedule_replay.specs.declared.replayed.Replayed.{Replayed}
use Rattle.schedule_replay.specs.declared.replayed.Replayed.TheVariants as answers

-- the answer at the end of lines
abbrev pub answer_at : Counts → Ending → Replayed
answer_at counts AtEnd = answers.Ended counts
answer_at counts (AtFault line fault) = answers.Refused line fault
answer_at counts AtLimit = answers.TooLong

-- the answer where there is no further line
abbrev pub stop_answer : Counts → Stop ScheduleFault → Replayed
stop_answer counts stops.End = answers.Ended counts
stop_answer counts (stops.Refused line fault) = answers.Refused line fault
stop_answer counts stops.TooLong = answers.TooLong
stop_answer counts stops.ReadFault = answers.ReadFault

-- the answer of a run of all events, with their counts
abbrev pub run_answer : State → Scheduled → Replayed
run_answer s all = answer_at (counts_of s all.events) all.ending

-- the answer where nothing is run and events are only counted
abbrev pub count_answer : Scheduled → Replayed
count_answer all = answer_at (events_alone (length all.events)) all.ending

-- these are the events and the answer for all that the lines ask for: all events, or those before the first fault of
-- reading or writing
abbrev pub Accords : (Scheduled → Replayed) → Replayed → List Event → Scheduled → Type 0
Accords answer_of answers.ReadFault events all = (rest : List Event) × (all.events ≡ events ++ rest)
Accords answer_of answers.WriteFault events all = (rest : List Event) × (all.events ≡ events ++ rest)
Accords answer_of answer events all = (events ≡ all.events) × (answer ≡ answer_of all)

-- reading failed behind whole lines that ask for these events and end nothing; the reader holds no whole line
abbrev pub FailsBehind : ℕ → Reader → Reader → Option (List ℕ) → Option (List ℕ) → List Event → Type 0
FailsBehind harts old new held held' events =
    FailsOn (scheduled harts old.number) (preceded events (ends AtEnd)) old new held held'

-- these events and this answer are what the lines ask for, as far as they are known
pub record Follows (answer_of : Scheduled → Replayed) (harts : ℕ)
    (old new : Reader) (held held' : Option (List ℕ))
    (events : List Event) (answer : Replayed) : Type 0 where
  pub lines : OnParts (ahead old held) (λ parts. Accords answer_of answer events (scheduled harts old.number parts))
  pub read : answer ≡ answers.ReadFault → FailsBehind harts old new held held' events

-- a machine ran these events: its state, the slots that it fetched, and what its translator keeps; there are as
-- many harts and objects as before
pub record Ran {T K : Type 0}
    (kept : T → K)
    (cost : K → Items → Capability → ℕ → Kind → ℕ)
    (after : K → Items → Capability → ℕ → Kind → K)
    (without : K → Item → K)
    (m : MachineValue T) (fetches : ℕ)
    (n : MachineValue T) (fetches' : ℕ)
    (events : List Event) : Type 0 where
  pub state : state_of n ≡ run_state (state_of m) events
  pub counted : fetches' ≡ fetches + spent cost after without (kept m.translator) (run_touches (state_of m) events)
  pub keeps : kept n.translator ≡ kept_after cost after without (kept m.translator) (run_touches (state_of m) events)
  pub harts : n.objects.harts ≡ m.objects.harts
  pub sizes : sizes_of n.objects ≡ sizes_of m.objects

-- writing failed in the records of the last of these events: no fewer of them have more text than was written
pub record StopsInLast (mode : Mode) (s : State) (taken taken' : Option (List ℕ)) (events : List Event) : Type 0 where
  pub before : List Event
  pub last : Event
  pub all : events ≡ before ++ last ∷ []
  pub count : ℕ
  pub written : Appends taken taken' (take count (lines_told mode s events))
  pub behind : length (lines_told mode s before) ≤ count
  pub short : count < length (lines_told mode s events)

-- what was written of these events: all their records, or a front of them where writing failed
abbrev pub WritesRun : Mode → State → Option (List ℕ) → Option (List ℕ) → List Event → Replayed → Type 0
WritesRun mode s taken taken' events answers.WriteFault = StopsInLast mode s taken taken' events
WritesRun mode s taken taken' events answer = Appends taken taken' (lines_told mode s events)

-- why a replay ends with a fault of reading or of writing, by the counts of both objects' faults
pub record HasReasons (unread unread' unwritten unwritten' : ℕ) (answer : Replayed) : Type 0 where
  pub read : answer ≡ answers.ReadFault → Rose unread unread'
  pub read_quiet : answer ≢ answers.ReadFault → unread' ≡ unread
  pub write : answer ≡ answers.WriteFault → Rose unwritten unwritten'
  pub write_quiet : answer ≢ answers.WriteFault → unwritten' ≡ unwritten

-- which events were run, what was written of them, and that they and the answer are what the lines ask for
pub record Replays {T K : Type 0}
    (kept : T → K)
    (cost : K → Items → Capability → ℕ → Kind → ℕ)
    (after : K → Items → Capability → ℕ → Kind → K)
    (without : K → Item → K)
    (mode : Mode)
    (m n : MachineValue T)
    (old new : Reader) (held held' taken taken' : Option (List ℕ))
    (fetches fetches' : ℕ)
    (answer : Replayed) : Type 0 where
  pub events : List Event
  pub ran : Ran kept cost after without m fetches n fetches' events
  pub text : WritesRun mode (state_of m) taken taken' events answer
  pub follows : Follows (run_answer (state_of m)) m.objects.harts old new held held' events answer

-- which events were counted, and that they and the answer are what the lines ask for
pub record Counted (harts : ℕ) (old new : Reader) (held held' : Option (List ℕ)) (answer : Replayed) : Type 0 where
  pub events : List Event
  pub written : answer ≢ answers.WriteFault
  pub follows : Follows count_answer harts old new held held' events answer
