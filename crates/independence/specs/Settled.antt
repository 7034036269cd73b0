-- Settled pages: no process can change them any more, nor name them so that it could. They are looked at in the model's map, where a
-- capability that is dead is Null, and so names nothing. (Own.)
use Rattle.std.specs.Prelude.{◌≡◌, ◌≢◌, ℕ, Bool, true}
use Rattle.cap_format.specs.declared.kind.CapKind.TheVariants.{Page, Range}
use Rattle.cap_format.specs.Capability.{Capability}
use Rattle.cap_format.specs.Weakening.{is_harmless}
use Rattle.page_store.specs.CapPage.{cap_at}
use Rattle.process_objects.specs.Process.{capreg_of, slot_of}
use Rattle.object_store.specs.Store.{Store, slot_at, cappage_at, process_at, endpoint_at, page_at}
use Rattle.machine_state.specs.declared.event.Event.{Event}
use Rattle.machine_state.specs.State.{State}
use Rattle.kernel_core.specs.Event.{event_of}

-- whoever holds the capability can't change a page: it is no Range, and where it names the page it is RO
pub record SparesPage (n : ℕ) (c : Capability) : Type 0 where
  pub no_range : c.kind ≢ Range
  pub harmless : c.kind ≡ Page → c.object ≡ n → is_harmless c ≡ true

-- A page is settled: so it is with each capability, wherever it stands.
pub record IsSettled (s : Store) (n : ℕ) : Type 0 where
  pub slots : (g i : ℕ) → SparesPage n (slot_at s.items g i)
  pub cappages : (c i : ℕ) → SparesPage n (cap_at (cappage_at s c) i)
  pub capregs : (p i : ℕ) → SparesPage n (capreg_of (process_at s p) i)
  pub process_slots : (p i : ℕ) → SparesPage n (slot_of (process_at s p) i)
  pub recipients : (e : ℕ) → SparesPage n (endpoint_at s e).recipient

-- each of these pages is
abbrev pub AreSettled : (ℕ → Bool) → Store → Type 0
AreSettled settled s = (n : ℕ) → settled n ≡ true → IsSettled s n

-- their bytes are the same
abbrev pub SameSettled : (ℕ → Bool) → Store → Store → Type 0
SameSettled settled s t = (n : ℕ) → settled n ≡ true → page_at s n ≡ page_at t n

-- what is settled stays so, with the same bytes
pub record StaySettled (settled : ℕ → Bool) (s t : Store) : Type 0 where
  pub stay : AreSettled settled t
  pub bytes : SameSettled settled s t

-- No event changes a page that is settled.
abbrev pub SettledLaw : Type 0
SettledLaw = (settled : ℕ → Bool) (s : State) (e : Event) → AreSettled settled s.store
    → StaySettled settled s.store (event_of s e).state.store
