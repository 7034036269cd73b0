-- What a search over the wide machine says of the machine with few harts, as statements: the states
-- to which its harts' steps lead, or runs of them, against all lists of steps and ticks. (The
-- reduction is this project's own.)
use Rattle.std.specs.Prelude.{◌≡◌, ◌≤◌, ◌<◌, ◌⊎◌, ℕ, Bool, false, if◌then◌else◌}
use Rattle.std.specs.Prelude.{List, [], ◌∷◌, length}
use Rattle.machine_state.specs.declared.event.Event.{Event}
use Rattle.machine_state.specs.declared.event.Event.TheVariants.{Step}
use Rattle.machine_state.specs.State.{State, IsOnHart}
use Rattle.kernel_core.specs.Event.{performer}
use Rattle.kernel_core.specs.Run.{run_state}
use Rattle.quiet_runs.specs.Runs.{Watch, RunsAreQuiet, SeesOnly}
use Rattle.quiet_runs.specs.Runs.{after_step, after_steps, after_run, after_runs}
use Rattle.quiet_runs.specs.Finding.{has_process}
use Rattle.quiet_runs.specs.Laws.{AreHarts}
use Rattle.preemption.specs.Wide.{IsForEach}
use Rattle.machine_state.specs.Home.{at_home}
use Rattle.preemption.specs.Begun.{at_rest}
use Rattle.preemption.specs.Laws.{AreOf, SeesNoPlaces}

-- ---- where both machines begin

-- The wide machine has each process that is on a hart on the hart of its own number, and there is
-- one for each of them.
pub record IsMoved (few many : ℕ) (s w : State) : Type 0 where
  pub few_harts : length s.queues.harts ≡ few
  pub each : (p : ℕ) → IsOnHart s.queues p → p < many
  pub wide : w ≡ at_home many s

-- All harts are idle in both, and all else is the same.
pub record IsIdle (few many : ℕ) (s w : State) : Type 0 where
  pub wide : w ≡ at_rest many w
  pub narrow : s ≡ at_rest few w

-- so the wide machine may begin in state `w`, and the one with few harts in state `s`
abbrev pub Begin : ℕ → ℕ → State → State → Type 0
Begin few many s w = IsMoved few many s w ⊎ IsIdle few many s w

-- ---- what is asked of each state

-- each process that is on a hart has a schedule, and what is tested doesn't hold
pub record IsSafe (many : ℕ) (test : State → Bool) (t : State) : Type 0 where
  pub scheduled : IsForEach many t
  pub fails : test t ≡ false

-- It doesn't hold after steps and ticks of so many harts, in whatever order, if there are no more
-- of them than this.
abbrev pub HoldsAfterNone : ℕ → ℕ → (State → Bool) → State → Type 0
HoldsAfterNone few most test s = (es : List Event) → AreOf few es → length es ≤ most
    → test (run_state s es) ≡ false

-- it doesn't, however many there are
abbrev pub HoldsNever : ℕ → (State → Bool) → State → Type 0
HoldsNever few test s = (es : List Event) → AreOf few es → test (run_state s es) ≡ false

-- ---- steps of the wide machine

-- Where all states to which steps of the wide machine's harts lead are safe, what is tested holds
-- after no steps and ticks of the few harts.
abbrev pub StepsLaw : Type 0
StepsLaw = (few many : ℕ) (test : State → Bool) (s w : State)
    → Begin few many s w → SeesNoPlaces test
    → ((harts : List ℕ) → AreHarts many harts → IsSafe many test (after_steps w harts))
    → HoldsNever few test s

-- Where those are to which so many steps lead at most, it holds after no more events than that.
abbrev pub StepsWithinLaw : Type 0
StepsWithinLaw = (few many most : ℕ) (test : State → Bool) (s w : State)
    → Begin few many s w → SeesNoPlaces test
    → ((harts : List ℕ) → AreHarts many harts → length harts ≤ most
    → IsSafe many test (after_steps w harts))
    → HoldsAfterNone few most test s

-- ---- runs of the wide machine: a step, and quiet steps after it

-- So it is where all states to which runs lead are safe.
abbrev pub RunsLaw : Type 0
RunsLaw = (few many : ℕ) (watch : Watch) (more : State → ℕ → ℕ) (test : State → Bool)
    (s w : State)
    → Begin few many s w → SeesNoPlaces test → SeesOnly watch test → RunsAreQuiet watch more
    → ((runs : List ℕ) → AreHarts many runs → IsSafe many test (after_runs more w runs))
    → HoldsNever few test s

-- And where those are to which so many runs lead at most.
abbrev pub RunsWithinLaw : Type 0
RunsWithinLaw = (few many most : ℕ) (watch : Watch) (more : State → ℕ → ℕ)
    (test : State → Bool) (s w : State)
    → Begin few many s w → SeesNoPlaces test → SeesOnly watch test → RunsAreQuiet watch more
    → ((runs : List ℕ) → AreHarts many runs → length runs ≤ most
    → IsSafe many test (after_runs more w runs))
    → HoldsAfterNone few most test s

-- ---- choices of a process: it takes its turn, where it has one

-- Process `p` has a turn: it would perform the step of the hart of its own number. It is on that
-- hart, or the hart is idle and it is the first who waits for one.
abbrev pub has_turn : State → ℕ → Bool
has_turn s p = has_process (performer s (Step p)) p

-- the state after process `p` is chosen: a step of its hart where it has a turn, and otherwise the
-- same
abbrev pub after_turn : State → ℕ → State
after_turn s p = if has_turn s p then after_step s p else s

-- the state after these are chosen, one after the other
abbrev pub after_turns : State → List ℕ → State
after_turns s [] = s
after_turns s (p ∷ ps) = after_turns (after_turn s p) ps

-- the same where a turn is a run: a step, and quiet steps after it
abbrev pub after_turn_run : (State → ℕ → ℕ) → State → ℕ → State
after_turn_run more s p = if has_turn s p then after_run more s p else s

abbrev pub after_turn_runs : (State → ℕ → ℕ) → State → List ℕ → State
after_turn_runs more s [] = s
after_turn_runs more s (p ∷ ps) = after_turn_runs more (after_turn_run more s p) ps

-- Where so many choices of processes at most lead to safe states alone, what is tested holds after
-- no more events than that of the few harts. A state of the wide machine has each process on its
-- own hart or on none then, so none comes twice with its processes on other harts.
abbrev pub TurnsWithinLaw : Type 0
TurnsWithinLaw = (few many most : ℕ) (test : State → Bool) (s w : State)
    → Begin few many s w → SeesNoPlaces test
    → ((ps : List ℕ) → AreHarts many ps → length ps ≤ most → IsSafe many test (after_turns w ps))
    → HoldsAfterNone few most test s

-- Where all choices of processes do, it holds after no events at all.
abbrev pub TurnsLaw : Type 0
TurnsLaw = (few many : ℕ) (test : State → Bool) (s w : State)
    → Begin few many s w → SeesNoPlaces test
    → ((ps : List ℕ) → AreHarts many ps → IsSafe many test (after_turns w ps))
    → HoldsNever few test s

-- So it is where turns are runs.
abbrev pub TurnRunsWithinLaw : Type 0
TurnRunsWithinLaw = (few many most : ℕ) (watch : Watch) (more : State → ℕ → ℕ)
    (test : State → Bool) (s w : State)
    → Begin few many s w → SeesNoPlaces test → SeesOnly watch test → RunsAreQuiet watch more
    → ((ps : List ℕ) → AreHarts many ps → length ps ≤ most
    → IsSafe many test (after_turn_runs more w ps))
    → HoldsAfterNone few most test s

abbrev pub TurnRunsLaw : Type 0
TurnRunsLaw = (few many : ℕ) (watch : Watch) (more : State → ℕ → ℕ) (test : State → Bool)
    (s w : State)
    → Begin few many s w → SeesNoPlaces test → SeesOnly watch test → RunsAreQuiet watch more
    → ((ps : List ℕ) → AreHarts many ps → IsSafe many test (after_turn_runs more w ps))
    → HoldsNever few test s
