-- The laws of seclusion and of quiet events, as statements.
use Rattle.std.specs.Prelude.{◌≡◌, ◌≢◌, ℕ, Bool, false, List, Some}
use Rattle.cap_format.specs.declared.kind.CapKind.TheVariants.{Process}
use Rattle.schedules.specs.Queues.{hart_of}
use Rattle.machine_state.specs.declared.event.Event.{Event}
use Rattle.machine_state.specs.declared.event.Event.TheVariants.{Step}
use Rattle.machine_state.specs.declared.record.Record.{Record}
use Rattle.machine_state.specs.State.{State}
use Rattle.kernel_core.specs.Event.{performer, event_of}
use Rattle.confinement.specs.declared.cut_side.CutSide.TheVariants.{Right}
use Rattle.confinement.specs.Cut.{Cut, side_of}
use Rattle.confinement.specs.Acts.{Spares, SparesPlaces}
use Rattle.independence.specs.Seclusion.{Secluded}
use Rattle.independence.specs.Rewrite.{Rewrite, IsPrivate, ArePrivate, rewritten, rewritten_all, DifferOnLeft}
use Rattle.independence.specs.Settled.{AreSettled, SameSettled}
use Rattle.independence.specs.Quiet.{IsQuietBy}

-- no process of the left performs an event, if anybody does
abbrev pub IsOfOthers : Cut → State → Event → Type 0
IsOfOthers cut s e = (p : ℕ) → performer s e ≡ Some p → side_of cut Process p ≡ Right

-- What is on the left is as it was: each object, its age included, and on which harts its processes are. And it is still theirs
-- alone.
pub record LeavesLeft (cut : Cut) (s t : State) : Type 0 where
  pub secluded : Secluded cut t
  pub spares : Spares cut Right s.store t.store
  pub places : SparesPlaces cut Right s.queues t.queues

-- An event of others leaves what is on the left as it is.
abbrev pub LeftLaw : Type 0
LeftLaw = (cut : Cut) (s : State) (e : Event)
    → Secluded cut s
    → IsOfOthers cut s e
    → LeavesLeft cut s (event_of s e).state

-- An event tells the same in a state in which something is rewritten, and makes the same of it but for what is.
pub record IsBlindTo (rewrite : Rewrite) (s : State) (e : Event) : Type 0 where
  pub records : (event_of (rewritten s rewrite) e).records ≡ (event_of s e).records
  pub state : (event_of (rewritten s rewrite) e).state ≡ rewritten (event_of s e).state rewrite

-- An event of others does the same whatever is on the left.
abbrev pub BlindLaw : Type 0
BlindLaw = (cut : Cut) (s : State) (e : Event) (rewrite : Rewrite)
    → Secluded cut s
    → IsOfOthers cut s e
    → IsPrivate cut rewrite
    → IsBlindTo rewrite s e

-- What a quiet step does in a state: it rewrites what is on the left, and tells something.
pub record Does (s : State) (hart : ℕ) (rewrites : List Rewrite) (records : List Record) : Type 0 where
  pub state : (event_of s (Step hart)).state ≡ rewritten_all s rewrites
  pub told : (event_of s (Step hart)).records ≡ records

-- what is quiet in a state by a cut is so in another, and does the same there
pub record QuietAlike (cut : Cut) (settled : ℕ → Bool) (p : ℕ) (t : State) (hart : ℕ) (rewrites : List Rewrite) (records : List Record) : Type 0 where
  pub by : IsQuietBy cut settled p t hart
  pub does : Does t hart rewrites records

-- A quiet step rewrites nothing but what is on the left, and there registers, pc and bytes of pages alone. It is quiet in each
-- state that has the same on the left and the same settled pages and isn't halted, and does the same.
pub record QuietDoes (cut : Cut) (settled : ℕ → Bool) (p : ℕ) (s : State) (hart : ℕ) : Type 0 where
  pub rewrites : List Rewrite
  pub records : List Record
  pub own : ArePrivate cut rewrites
  pub does : Does s hart rewrites records
  pub differs : (t : State) → Spares cut Right s.store t.store → DifferOnLeft cut t (rewritten_all t rewrites)
  pub alike : (t : State) → t.halted ≡ false → Secluded cut t → Spares cut Right s.store t.store → hart_of t.queues hart ≡ Some p
      → AreSettled settled t.store → SameSettled settled s.store t.store
      → QuietAlike cut settled p t hart rewrites records

-- so it is with each quiet step
abbrev pub QuietLaw : Type 0
QuietLaw = (cut : Cut) (settled : ℕ → Bool) (p : ℕ) (s : State) (hart : ℕ) → IsQuietBy cut settled p s hart → QuietDoes cut settled p s hart

-- A quiet step and an event of others may be taken in either order. Where the event comes first and the machine isn't halted by
-- it, the step is still quiet, and the state after both is the same. Where it halts the machine, no step follows; the step that
-- came first makes no difference but to registers, pcs and bytes on the left.
pub record Independent (cut : Cut) (settled : ℕ → Bool) (p : ℕ) (s : State) (hart : ℕ) (e : Event) : Type 0 where
  pub others : IsOfOthers cut (event_of s (Step hart)).state e
  pub told : (event_of (event_of s (Step hart)).state e).records ≡ (event_of s e).records
  pub differs : DifferOnLeft cut (event_of s e).state (event_of (event_of s (Step hart)).state e).state
  pub quiet : (event_of s e).state.halted ≡ false → IsQuietBy cut settled p (event_of s e).state hart
  pub either : (event_of s e).state.halted ≡ false
      → (event_of (event_of s (Step hart)).state e).state ≡ (event_of (event_of s e).state (Step hart)).state

-- so it is with each quiet step and each event of others
abbrev pub IndependenceLaw : Type 0
IndependenceLaw = (cut : Cut) (settled : ℕ → Bool) (p : ℕ) (s : State) (hart : ℕ) (e : Event)
    → IsQuietBy cut settled p s hart
    → IsOfOthers cut s e
    → Independent cut settled p s hart e

-- Whether a step is quiet doesn't depend on quiet steps of other harts: what is quiet after one was so before, and a step of
-- another hart is an event of others.
pub record HartsApart : Type 0 where
  pub others : (cut : Cut) (settled : ℕ → Bool) (p : ℕ) (s : State) (hart other : ℕ) → IsQuietBy cut settled p s hart → other ≢ hart → IsOfOthers cut s (Step other)
  pub before : (cut own : Cut) (settled seen : ℕ → Bool) (p q : ℕ) (s : State) (hart other : ℕ) → IsQuietBy own seen q s other → other ≢ hart
      → IsQuietBy cut settled p (event_of s (Step other)).state hart
      → IsQuietBy cut settled p s hart
