-- What stays within a set of objects. (Own.)
use Rattle.std.specs.Prelude.{◌≡◌, ℕ, Bool, false, not, ◌||◌, if◌then◌else◌, List, filter, length, Option, Some, None}
use Rattle.cap_format.specs.declared.kind.CapKind.{CapKind}
use Rattle.cap_format.specs.declared.kind.CapKind.TheVariants.{Page, Process}
use Rattle.object_store.specs.Object.{SameObject}
use Rattle.schedules.specs.Queues.{ready_queue, sleepers_of, hart_of}
use Rattle.machine_state.specs.State.{State}
use Rattle.confinement.specs.Acts.{SameSizes, system_of}
use Rattle.confinement.specs.authority.Authority.{Authority, IsBounded}

-- the object is of the set, or a page that may be written besides
abbrev pub may_change : Authority → CapKind → ℕ → Bool
may_change a Page n = a.objects Page n || a.pages n
may_change a kind n = a.objects kind n

-- the processes of a list that are not of the set, in their order
abbrev pub others_in : Authority → List ℕ → List ℕ
others_in a ps = filter (λ p. not (a.objects Process p)) ps

-- the process on a hart, where it is not of the set
abbrev pub other_on : Authority → Option ℕ → Option ℕ
other_on a None = None
other_on a (Some p) = if a.objects Process p then None else Some p

-- State `s` became state `t`, and that stayed within the set. The set is bounded. All other objects are the same but for
-- pages that may be written, and of these the ages, as of all: nothing was destroyed. Who sleeps on all other processes is
-- the same, and they stand in the same order in each ready queue and on the same harts, of which there are as many. Nothing
-- is said of whether the machine was halted.
pub record StaysWithin (a : Authority) (s t : State) : Type 0 where
  pub bounded : IsBounded a (system_of t)
  pub objects : (kind : CapKind) (n : ℕ) → may_change a kind n ≡ false → SameObject kind n s.store t.store
  pub ages : s.store.items.counts ≡ t.store.items.counts
  pub sizes : SameSizes (system_of s) (system_of t)
  pub sleepers : (on : ℕ) → a.objects Process on ≡ false → sleepers_of s.queues on ≡ sleepers_of t.queues on
  pub ready : (priority : ℕ) → others_in a (ready_queue s.queues priority) ≡ others_in a (ready_queue t.queues priority)
  pub harts : (hart : ℕ) → other_on a (hart_of s.queues hart) ≡ other_on a (hart_of t.queues hart)
  pub size : length s.queues.harts ≡ length t.queues.harts
