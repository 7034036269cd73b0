-- Authority: sets of objects, and when what they hold is bounded by them. Capabilities are read in the model's map, where
-- none has a count and one that is dead is Null. (Own.)
use Rattle.std.specs.Prelude.{◌≡◌, ◌≢◌, ℕ, ◌⊎◌, Bool, true}
use Rattle.cap_format.specs.declared.kind.CapKind.{CapKind}
use Rattle.cap_format.specs.declared.kind.CapKind.TheVariants.{Page, CapPage, Gpt, Endpoint, Process, Range, KernLog, SysCtl}
use Rattle.cap_format.specs.Kind.{is_counted, object_kind}
use Rattle.cap_format.specs.Capability.{Capability}
use Rattle.cap_format.specs.Weakening.{is_harmless}
use Rattle.page_store.specs.CapPage.{cap_at}
use Rattle.process_objects.specs.Process.{capreg_of, slot_of}
use Rattle.object_store.specs.Store.{Store, slot_at, cappage_at, process_at, endpoint_at}
use Rattle.schedules.specs.Queues.{QueuesValue, sleepers_of, stands_in}
use Rattle.operations.specs.System.{System}

-- a set of objects, by kind and number; the pages whose bytes may be written besides; and whether an object of the set may
-- hold what is harmless, whatever it names, SysCtl, and KernLog
pub record Authority : Type 0 where
  pub objects : CapKind → ℕ → Bool
  pub pages : ℕ → Bool
  pub looks : Bool
  pub halts : Bool
  pub logs : Bool

-- what a capability names, if anything, is an object of the set, or the capability is harmless and such are allowed, or it is
-- a Page of those that may be written; an entry names its endpoint
abbrev pub NamesWithin : Authority → Capability → Type 0
NamesWithin a c = is_counted c.kind ≡ true
    → (a.objects (object_kind c.kind) c.object ≡ true)
    ⊎ (((a.looks ≡ true) × (is_harmless c ≡ true))
    ⊎ ((c.kind ≡ Page) × (a.pages c.object ≡ true)))

-- a capability that an object of the set may hold: no Range, SysCtl and KernLog where they are allowed, and one that names
-- nothing beyond
pub record Grants (a : Authority) (c : Capability) : Type 0 where
  pub no_range : c.kind ≢ Range
  pub halting : c.kind ≡ SysCtl → a.halts ≡ true
  pub logging : c.kind ≡ KernLog → a.logs ≡ true
  pub named : NamesWithin a c

-- each capability that stands in an object of the set is one that it may hold. Of other objects nothing is asked.
pub record EachGranted (a : Authority) (s : Store) : Type 0 where
  pub slots : (g i : ℕ) → a.objects Gpt g ≡ true → Grants a (slot_at s.items g i)
  pub cappages : (n i : ℕ) → a.objects CapPage n ≡ true → Grants a (cap_at (cappage_at s n) i)
  pub capregs : (p i : ℕ) → a.objects Process p ≡ true → Grants a (capreg_of (process_at s p) i)
  pub process_slots : (p i : ℕ) → a.objects Process p ≡ true → Grants a (slot_of (process_at s p) i)
  pub recipients : (e : ℕ) → a.objects Endpoint e ≡ true → Grants a (endpoint_at s e).recipient

-- a process of the set sleeps on a process of the set, and any other on one that is not
abbrev pub SleepWithin : Authority → QueuesValue → Type 0
SleepWithin a q = (on p : ℕ) → stands_in (sleepers_of q on) p ≡ true → a.objects Process p ≡ a.objects Process on

-- the set is bounded
pub record IsBounded (a : Authority) (w : System) : Type 0 where
  pub each : EachGranted a w.store
  pub sleepers : SleepWithin a w.queues
