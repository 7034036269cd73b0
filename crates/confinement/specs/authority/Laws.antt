-- The laws of authority, as statements.
use Rattle.std.specs.Prelude.{◌≡◌, ◌≢◌, ℕ, true, false, List, Some, None}
use Rattle.cap_format.specs.declared.kind.CapKind.{CapKind}
use Rattle.cap_format.specs.declared.kind.CapKind.TheVariants.{Process}
use Rattle.machine_state.specs.declared.event.Event.{Event}
use Rattle.machine_state.specs.State.{State}
use Rattle.kernel_core.specs.Event.{performer, event_of}
use Rattle.kernel_core.specs.Run.{run_state}
use Rattle.confinement.specs.Acts.{system_of}
use Rattle.confinement.specs.authority.Authority.{Authority, IsBounded}
use Rattle.confinement.specs.authority.Within.{StaysWithin}

-- *What an event changes, its performer could name*: an event that a process of a bounded set performs stays within the
-- set, whatever all other objects hold.
abbrev pub BoundsLaw : Type 0
BoundsLaw = (a : Authority) (s : State) (e : Event) (p : ℕ)
    → IsBounded a (system_of s)
    → performer s e ≡ Some p
    → a.objects Process p ≡ true
    → StaysWithin a s (event_of s e).state

-- two sets have no object in common; pages of one may be among those that the other may write besides
abbrev pub AreApart : Authority → Authority → Type 0
AreApart a b = (kind : CapKind) (n : ℕ) → a.objects kind n ≡ true → b.objects kind n ≡ false

-- What stays within one set leaves bounded another that is apart from it.
abbrev pub BesideLaw : Type 0
BesideLaw = (a b : Authority) (s t : State)
    → AreApart a b
    → StaysWithin a s t
    → IsBounded b (system_of s)
    → IsBounded b (system_of t)

-- sets by number, each apart from all others, and the set of each process
pub record AreSets (sets : ℕ → Authority) (home : ℕ → ℕ) : Type 0 where
  pub apart : (i j : ℕ) → i ≢ j → AreApart (sets i) (sets j)
  pub at_home : (p : ℕ) → (sets (home p)).objects Process p ≡ true

-- An event took state `s` to state `t`. All sets are bounded. Where a process performed it, it stayed within that process's
-- set; where nobody did, no object changed, and no sleeper.
pub record KeepsBounds (sets : ℕ → Authority) (home : ℕ → ℕ) (s : State) (e : Event) (t : State) : Type 0 where
  pub bounded : (i : ℕ) → IsBounded (sets i) (system_of t)
  pub within : (p : ℕ) → performer s e ≡ Some p → StaysWithin (sets (home p)) s t
  pub idle : performer s e ≡ None → (t.store ≡ s.store) × (t.queues.sleepers ≡ s.queues.sleepers)

-- Where such sets are bounded, it is so with every event, behind any events.
abbrev pub FamilyLaw : Type 0
FamilyLaw = (sets : ℕ → Authority) (home : ℕ → ℕ) (s : State)
    → AreSets sets home
    → ((i : ℕ) → IsBounded (sets i) (system_of s))
    → (before : List Event) (e : Event)
    → let t = run_state s before in KeepsBounds sets home t e (event_of t e).state
