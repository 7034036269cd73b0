-- The laws of quiet runs, as statements.
use Rattle.std.specs.Prelude.{◌≡◌, ◌<◌, ◌≤◌, ◌⊎◌, ℕ, Bool, true, false, List, length}
use Rattle.std.specs.List.{AllByRecursion as Each}
use Rattle.cap_format.specs.declared.kind.CapKind.{CapKind}
use Rattle.cap_format.specs.Capability.{Capability}
use Rattle.object_store.specs.Store.{Store}
use Rattle.walk_meaning.specs.declared.kind.Kind.{Kind}
use Rattle.walk_meaning.specs.Trail.{trail}
use Rattle.machine_state.specs.State.{State, space_of}
use Rattle.machine_state.specs.DataAccess.{data_access}
use Rattle.independence.specs.Settled.{IsSettled}
use Rattle.quiet_runs.specs.Runs.{Watch, RunsAreQuiet, SameFor, SeesOnly, after_step, after_steps, after_runs}
use Rattle.quiet_runs.specs.Reaching.{reached_by}
use Rattle.quiet_runs.specs.Finding.{is_quiet, is_settled, quiet_steps, quiet_within}
use Rattle.quiet_runs.specs.Finding.{some_held, some_recipient}

-- a list of harts of a machine that has so many
abbrev pub AreHarts : ℕ → List ℕ → Type 0
AreHarts count harts = Each (λ (hart : ℕ). hart < count) harts

-- steps of these harts that lead from one state to another
pub record Leads (count : ℕ) (s t : State) : Type 0 where
  pub harts : List ℕ
  pub of : AreHarts count harts
  pub there : after_steps s harts ≡ t

-- A state is behind another: the same for one who looks at these, and either steps of these harts lead on to the other, or the
-- machine is halted in both.
pub record IsBehind (count : ℕ) (watch : Watch) (s t : State) : Type 0 where
  pub same : SameFor watch s t
  pub leads : (s.halted ≡ true) ⊎ Leads count s t

-- runs of these harts that take the place of steps: no more than there are steps, and the state after the steps is behind that
-- after the runs
pub record Simulated (count : ℕ) (watch : Watch) (more : State → ℕ → ℕ) (s : State) (harts : List ℕ) : Type 0 where
  pub runs : List ℕ
  pub of : AreHarts count runs
  pub few : length runs ≤ length harts
  pub behind : IsBehind count watch (after_steps s harts) (after_runs more s runs)

-- Each list of steps of a machine's harts has such runs.
abbrev pub SimulationLaw : Type 0
SimulationLaw = (count : ℕ) (watch : Watch) (more : State → ℕ → ℕ) → RunsAreQuiet watch more
    → (s : State) (harts : List ℕ) → AreHarts count harts → Simulated count watch more s harts

-- What holds after no runs of a machine's harts holds after no steps of them.
abbrev pub NeverLaw : Type 0
NeverLaw = (count : ℕ) (watch : Watch) (more : State → ℕ → ℕ) (test : State → Bool) (s : State)
    → RunsAreQuiet watch more → SeesOnly watch test
    → ((runs : List ℕ) → AreHarts count runs → test (after_runs more s runs) ≡ false)
    → (harts : List ℕ) → AreHarts count harts → test (after_steps s harts) ≡ false

-- some steps of these harts lead from a state to one of which the test holds
pub record CanCome (count : ℕ) (test : State → Bool) (s : State) : Type 0 where
  pub harts : List ℕ
  pub of : AreHarts count harts
  pub holds : test (after_steps s harts) ≡ true

-- some runs do
pub record CanRun (count : ℕ) (more : State → ℕ → ℕ) (test : State → Bool) (s : State) : Type 0 where
  pub runs : List ℕ
  pub of : AreHarts count runs
  pub holds : test (after_runs more s runs) ≡ true

-- What can come to hold after all runs of a machine's harts can come to hold after all steps of them.
abbrev pub EverLaw : Type 0
EverLaw = (count : ℕ) (watch : Watch) (more : State → ℕ → ℕ) (test : State → Bool) (s : State)
    → RunsAreQuiet watch more → SeesOnly watch test
    → ((runs : List ℕ) → AreHarts count runs → CanRun count more test (after_runs more s runs))
    → (harts : List ℕ) → AreHarts count harts → CanCome count test (after_steps s harts)

-- The steps that are found are quiet.
abbrev pub FoundLaw : Type 0
FoundLaw = (watch : Watch) → RunsAreQuiet watch (quiet_steps watch)

-- So are they where no more than so many are counted.
abbrev pub WithinFoundLaw : Type 0
WithinFoundLaw = (most : ℕ) (watch : Watch) → RunsAreQuiet watch (quiet_within most watch)

-- A page that is found to be settled is.
abbrev pub SettledFoundLaw : Type 0
SettledFoundLaw = (s : Store) (n : ℕ) → is_settled s n ≡ true → IsSettled s n

-- The same capabilities are held in both, and the same come to each object.
pub record HoldAlike (s t : Store) : Type 0 where
  pub held : (test : Capability → Bool) → some_held test t ≡ some_held test s
  pub recipients : (test : Capability → Bool) → some_recipient test t ≡ some_recipient test s
  pub reached : (kind : CapKind) (n : ℕ) → reached_by t kind n ≡ reached_by s kind n

-- What one looks at who looks for quiet steps is the same in both: what is held, and who comes to
-- what; how many pages there are; who is on which hart; and what each access of data comes to, and
-- by which way.
pub record LookAlike (s t : State) : Type 0 where
  pub hold : HoldAlike s.store t.store
  pub pages : length t.store.contents.pages ≡ length s.store.contents.pages
  pub queues : t.queues ≡ s.queues
  pub walks : (p at : ℕ) (kind : Kind) → data_access t p at kind ≡ data_access s p at kind
  pub ways : (p at : ℕ) (kind : Kind) → trail t.store.items (space_of t p) at kind
      ≡ trail s.store.items (space_of s p) at kind

-- A quiet step moves no capability, and leaves all of this.
abbrev pub HeldLaw : Type 0
HeldLaw = (watch : Watch) (s : State) (hart : ℕ) → is_quiet watch s hart ≡ true → LookAlike s (after_step s hart)
