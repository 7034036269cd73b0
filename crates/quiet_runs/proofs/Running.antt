-- Steps and runs, one behind the other.
use Rattle.std.proofs.Common.{◌≡◌, ℕ, List, [], ◌∷◌, replicate, refl, ◌∙◌}
use Rattle.fair_rounds.specs.Rounds.{after}
use Rattle.machine_state.specs.State.{State}
use Rattle.quiet_runs.specs.Runs.{after_step, after_steps, after_run, after_runs}
use Rattle.quiet_runs.proofs.Steps.{after-none, after-more, by, by-steps}

-- no runs
pub runs-none : (more : State → ℕ → ℕ) (s : State) → after_runs more s [] ≡ s
unfolding after_runs
runs-none more s = refl

-- one, and more
pub runs-more : (more : State → ℕ → ℕ) (s : State) (h : ℕ) (hs : List ℕ)
    → after_runs more s (h ∷ hs) ≡ after_runs more (after_run more s h) hs
unfolding after_runs
runs-more more s h hs = refl

-- a run is a step and some more
pub run-is : (more : State → ℕ → ℕ) (s : State) (h : ℕ)
    → after_run more s h ≡ by (more (after_step s h) h) (after_step s h) h
run-is more s h =
    after-more s h (replicate (more (after_step s h) h) h)
    ∙ by-steps (more (after_step s h) h) (after_step s h) h

-- steps are choices of harts
pub steps-after : (s : State) (hs : List ℕ) → after_steps s hs ≡ after after_step s hs
steps-after s [] = after-none s
steps-after s (h ∷ hs) = after-more s h hs ∙ steps-after (after_step s h) hs

-- so are runs
pub runs-after : (more : State → ℕ → ℕ) (s : State) (hs : List ℕ)
    → after_runs more s hs ≡ after (after_run more) s hs
runs-after more s [] = runs-none more s
runs-after more s (h ∷ hs) = runs-more more s h hs ∙ runs-after more (after_run more s h) hs
