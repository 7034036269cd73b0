-- The laws of rounds, as statements: what rounds of runs say of rounds of their steps.
use Rattle.std.specs.Prelude.{◌≡◌, ℕ, suc, ◌*◌, ◌≤◌, Bool, true, List, length}
use Rattle.fair_rounds.specs.Rounds.{after, passes, MustWithin, AlwaysComes, IsLasso, IsEvasion}
use Rattle.machine_state.specs.State.{State}
use Rattle.quiet_runs.specs.Runs.{Watch, RunsAreQuiet, SeesOnly}
use Rattle.quiet_runs.specs.Runs.{after_step, after_steps, after_run, after_runs}
use Rattle.quiet_runs.specs.Begun.{begun_from, steps_of_runs}
use Rattle.quiet_runs.specs.Finding.{quiet_steps}
use Rattle.quiet_runs.specs.Laws.{AreHarts, IsBehind}

-- a run has no more than so many steps after its first
abbrev pub AreShort : ℕ → (State → ℕ → ℕ) → Type 0
AreShort most more = (s : State) (hart : ℕ) → more s hart ≤ most

-- Those whose quiet steps are found have no more than 4,096.
abbrev pub ShortLaw : Type 0
ShortLaw = (watch : Watch) → AreShort 4096 (quiet_steps watch)

-- ---- which runs take the place of steps

module _ (count : ℕ) (watch : Watch) (more : State → ℕ → ℕ) (s : State) (harts : List ℕ) where
  -- these runs do: they are no more than the steps, and the state after the steps is behind that
  -- after the runs
  pub record TakePlace (runs : List ℕ) : Type 0 where
    pub of : AreHarts count runs
    pub few : length runs ≤ length harts
    pub behind : IsBehind count watch (after_steps s harts) (after_runs more s runs)

-- The runs that a list of steps begins take its place.
abbrev pub BegunLaw : Type 0
BegunLaw = (count : ℕ) (watch : Watch) (more : State → ℕ → ℕ) → RunsAreQuiet watch more
    → (s : State) (harts : List ℕ) → AreHarts count harts
    → TakePlace count watch more s harts (begun_from more s harts)

-- What they pass the steps pass.
abbrev pub PassingLaw : Type 0
PassingLaw = (count : ℕ) (watch : Watch) (more : State → ℕ → ℕ) (goal : State → Bool)
    → RunsAreQuiet watch more → SeesOnly watch goal
    → (s : State) (harts : List ℕ) → AreHarts count harts
    → passes (after_run more) goal s (begun_from more s harts) ≡ true
    → passes after_step goal s harts ≡ true

-- ---- what must come

-- Must: where so many rounds of runs pass a goal, so many rounds of steps do, times the steps that
-- a run has at most.
abbrev pub MustLaw : Type 0
MustLaw = (count : ℕ) (watch : Watch) (more : State → ℕ → ℕ) (most : ℕ)
    (goal : State → Bool) (s : State) (rounds : ℕ)
    → RunsAreQuiet watch more → AreShort most more → SeesOnly watch goal
    → MustWithin (after_run more) goal count s rounds
    → MustWithin after_step goal count s (rounds * suc most)

-- After: where they do from each first state to which runs lead, the steps do from each to which
-- steps lead.
abbrev pub AlwaysLaw : Type 0
AlwaysLaw = (count : ℕ) (watch : Watch) (more : State → ℕ → ℕ) (most : ℕ)
    (goal first : State → Bool) (s : State) (rounds : ℕ)
    → RunsAreQuiet watch more → AreShort most more → SeesOnly watch goal → SeesOnly watch first
    → AlwaysComes (after_run more) goal count first s rounds
    → AlwaysComes after_step goal count first s (rounds * suc most)

-- ---- what evades

-- A lasso of runs is one of their steps.
abbrev pub LassoLaw : Type 0
LassoLaw = (count : ℕ) (watch : Watch) (more : State → ℕ → ℕ) (goal : State → Bool) (s : State)
    (path cycle : List ℕ)
    → RunsAreQuiet watch more → SeesOnly watch goal
    → IsLasso (after_run more) goal count s path cycle
    → IsLasso after_step goal count s (steps_of_runs more s path)
    (steps_of_runs more (after (after_run more) s path) cycle)

-- So is an evasion.
abbrev pub EvasionLaw : Type 0
EvasionLaw = (count : ℕ) (watch : Watch) (more : State → ℕ → ℕ)
    (goal first : State → Bool) (s : State) (path cycle : List ℕ)
    → RunsAreQuiet watch more → SeesOnly watch goal
    → IsEvasion (after_run more) goal count first s path cycle
    → IsEvasion after_step goal count first s (steps_of_runs more s path)
    (steps_of_runs more (after (after_run more) s path) cycle)
