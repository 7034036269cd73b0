-- Runs of harts: a step, and quiet steps after it. (Own.)
use Rattle.std.specs.Prelude.{◌≡◌, ℕ, zero, suc, Bool, true, false, List, [], ◌∷◌, replicate}
use Rattle.cap_format.specs.declared.kind.CapKind.TheVariants.{Page}
use Rattle.object_store.specs.Store.{page_at}
use Rattle.schedules.specs.Queues.{stands_in}
use Rattle.machine_state.specs.declared.event.Event.TheVariants.{Step}
use Rattle.machine_state.specs.State.{State, process}
use Rattle.kernel_core.specs.Event.{event_of}
use Rattle.confinement.specs.declared.cut_side.CutSide.TheVariants.{Right}
use Rattle.confinement.specs.Cut.{Cut, side_of}
use Rattle.independence.specs.Rewrite.{SameButData}
use Rattle.independence.specs.Quiet.{IsQuietBy}

-- the state after a step of a hart
abbrev pub after_step : State → ℕ → State
after_step s hart = (event_of s (Step hart)).state

-- the state after steps of these harts, one after the other
unfoldable pub after_steps : State → List ℕ → State
after_steps s [] = s
after_steps s (hart ∷ harts) = after_steps (after_step s hart) harts

-- the processes whose registers are looked at, and the pages whose bytes are
pub record Watch : Type 0 where
  pub processes : ℕ → Bool
  pub pages : ℕ → Bool

-- these processes and these pages
abbrev pub watch_by : List ℕ → List ℕ → Watch
watch_by processes pages = record { processes = λ p. stands_in processes p; pages = λ n. stands_in pages n }

-- a step is quiet for one who looks at these: it is quiet, and nothing of it is on the left
pub record IsQuietFor (watch : Watch) (s : State) (hart : ℕ) : Type 0 where
  pub cut : Cut
  pub settled : ℕ → Bool
  pub process : ℕ
  pub by : IsQuietBy cut settled process s hart
  pub unwatched : watch.processes process ≡ false
  pub pages : (n : ℕ) → watch.pages n ≡ true → side_of cut Page n ≡ Right

-- so many steps of a hart are quiet, one after the other
abbrev pub AreQuiet : Watch → ℕ → State → ℕ → Type 0
AreQuiet watch zero s hart = Unit {0}
AreQuiet watch (suc n) s hart = IsQuietFor watch s hart × AreQuiet watch n (after_step s hart) hart

-- the steps of a run of a hart, where `more` says how many steps are taken after the first
abbrev pub run_of : (State → ℕ → ℕ) → State → ℕ → List ℕ
run_of more s hart = hart ∷ replicate (more (after_step s hart) hart) hart

-- the state after it
abbrev pub after_run : (State → ℕ → ℕ) → State → ℕ → State
after_run more s hart = after_steps s (run_of more s hart)

-- the state after runs of these harts, one after the other
unfoldable pub after_runs : (State → ℕ → ℕ) → State → List ℕ → State
after_runs more s [] = s
after_runs more s (hart ∷ harts) = after_runs more (after_run more s hart) harts

-- the steps that are taken after the first of a run are quiet
abbrev pub RunsAreQuiet : Watch → (State → ℕ → ℕ) → Type 0
RunsAreQuiet watch more = (s : State) (hart : ℕ) → AreQuiet watch (more s hart) s hart

-- Two states are the same for one who looks at these: they differ in registers, pcs and bytes alone, and in none of those.
pub record SameFor (watch : Watch) (s t : State) : Type 0 where
  pub same : SameButData s t
  pub processes : (p : ℕ) → watch.processes p ≡ true → process s p ≡ process t p
  pub pages : (n : ℕ) → watch.pages n ≡ true → page_at s.store n ≡ page_at t.store n

-- what is asked of a state depends on nothing else
abbrev pub SeesOnly : Watch → (State → Bool) → Type 0
SeesOnly watch test = (s t : State) → SameFor watch s t → test s ≡ test t
