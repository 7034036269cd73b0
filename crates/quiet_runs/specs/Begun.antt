-- Which runs a list of steps begins, and which steps a list of runs is. (A simulation with
-- stuttering: the runs go on where a step begins one, and stay at each other step of it.)
use Rattle.std.specs.Prelude.{ℕ, zero, suc, ◌==◌, if◌then◌else◌, List, [], ◌∷◌, ◌++◌}
use Rattle.machine_state.specs.State.{State}
use Rattle.quiet_runs.specs.Runs.{after_step, run_of, after_run}

-- runs under way: the state to which all of them lead, and how many steps of its run each hart
-- has left
pub record UnderWay : Type 0 where
  pub state : State
  pub left : ℕ → ℕ

-- none is
abbrev pub none_under_way : State → UnderWay
none_under_way s = record { state = s; left = λ hart. 0 }

-- so many steps are left to a hart, and to each other as many as before
abbrev pub with_left : (ℕ → ℕ) → ℕ → ℕ → ℕ → ℕ
with_left left hart n other = if other == hart then n else left other

-- what is under way with a run of a hart more
abbrev pub with_run : (State → ℕ → ℕ) → UnderWay → ℕ → UnderWay
with_run more u hart = record {
  state = after_run more u.state hart;
  left = with_left u.left hart (more (after_step u.state hart) hart);
}

-- after a step of a hart that has so many left: the first of a new run where it has none, or else
-- the next of its run
abbrev pub stepped : (State → ℕ → ℕ) → UnderWay → ℕ → ℕ → UnderWay
stepped more u hart zero = with_run more u hart
stepped more u hart (suc n) = record { state = u.state; left = with_left u.left hart n }

-- what is under way after a step of a hart
abbrev pub on_step : (State → ℕ → ℕ) → UnderWay → ℕ → UnderWay
on_step more u hart = stepped more u hart (u.left hart)

-- the run that a step of a hart begins, if any, where the hart has so many left
abbrev pub begun_by : ℕ → ℕ → List ℕ
begun_by zero hart = hart ∷ []
begun_by (suc n) hart = []

-- the runs that steps of these harts begin, in their order
abbrev pub begun : (State → ℕ → ℕ) → UnderWay → List ℕ → List ℕ
begun more u [] = []
begun more u (hart ∷ harts) = begun_by (u.left hart) hart ++ begun more (on_step more u hart) harts

-- those that they begin where none is under way before
abbrev pub begun_from : (State → ℕ → ℕ) → State → List ℕ → List ℕ
begun_from more s harts = begun more (none_under_way s) harts

-- the steps of runs of these harts
abbrev pub steps_of_runs : (State → ℕ → ℕ) → State → List ℕ → List ℕ
steps_of_runs more s [] = []
steps_of_runs more s (hart ∷ harts) =
    run_of more s hart ++ steps_of_runs more (after_run more s hart) harts
