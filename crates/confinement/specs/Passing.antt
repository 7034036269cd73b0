-- Plain processes: what stands in their capability registers and their capability pages may be passed on. So whoever they
-- send to gets no more than that, whatever he accepts. (Own.)
use Rattle.std.specs.Prelude.{◌≡◌, ℕ, ◌⊎◌, Bool, true, false, Some}
use Rattle.cap_format.specs.declared.kind.CapKind.{CapKind}
use Rattle.cap_format.specs.declared.kind.CapKind.TheVariants.{Null, CapPage, Gpt, Window, LocalWindow, Endpoint, Entry, Process, Schedule, Range, Discrim, KernLog, SysCtl}
use Rattle.cap_format.specs.Capability.{Capability}
use Rattle.page_store.specs.CapPage.{cap_at}
use Rattle.process_objects.specs.Process.{capreg_of, slot_of}
use Rattle.object_store.specs.Store.{Store, slot_at, cappage_at, process_at, endpoint_at}
use Rattle.machine_state.specs.declared.event.Event.{Event}
use Rattle.machine_state.specs.State.{State}
use Rattle.kernel_core.specs.Event.{performer, event_of}

-- what may be passed on: to which endpoints entries may, and whether KernLog and SysCtl may
pub record Passing : Type 0 where
  pub entries : ℕ → Bool
  pub logs : Bool
  pub halts : Bool

-- whether a capability of a kind with object `n` may be passed on: one that names no object, Range apart, and entries,
-- KernLog and SysCtl as this says
abbrev pub passes_kind : Passing → CapKind → ℕ → Bool
passes_kind passing Null n = true
passes_kind passing Discrim n = true
passes_kind passing Schedule n = true
passes_kind passing Window n = true
passes_kind passing LocalWindow n = true
passes_kind passing Entry n = passing.entries n
passes_kind passing KernLog n = passing.logs
passes_kind passing SysCtl n = passing.halts
passes_kind passing _ n = false

-- whether a capability may be passed on
abbrev pub may_pass : Passing → Capability → Bool
may_pass passing c = passes_kind passing c.kind c.object

-- whether a capability of a kind with object `n` may stand in a slot of a plain process, or of a GPT by which its accesses
-- go: no entry, so that nobody hears its faults, no Endpoint and no Range; and GPTs and capability pages of the same set
abbrev pub lies_kind : (CapKind → ℕ → Bool) → CapKind → ℕ → Bool
lies_kind own Entry n = false
lies_kind own Endpoint n = false
lies_kind own Range n = false
lies_kind own Gpt n = own Gpt n
lies_kind own CapPage n = own CapPage n
lies_kind own _ n = true

-- whether a capability may stand in such a slot
abbrev pub may_lie : (CapKind → ℕ → Bool) → Capability → Bool
may_lie own c = lies_kind own c.kind c.object

-- A set of objects is plain: what stands in capability registers and capability pages may be passed on, and what stands in
-- slots may stand there.
pub record IsPlain (passing : Passing) (own : CapKind → ℕ → Bool) (s : Store) : Type 0 where
  pub capregs : (p i : ℕ) → own Process p ≡ true → may_pass passing (capreg_of (process_at s p) i) ≡ true
  pub cappages : (n i : ℕ) → own CapPage n ≡ true → may_pass passing (cap_at (cappage_at s n) i) ≡ true
  pub process_slots : (p i : ℕ) → own Process p ≡ true → may_lie own (slot_of (process_at s p) i) ≡ true
  pub slots : (g i : ℕ) → own Gpt g ≡ true → may_lie own (slot_at s.items g i) ≡ true

-- Nothing is written that may not be passed on: each capability register and each place of a capability page is the same, or
-- holds what may be; and slots and recipients are the same.
pub record PassesAtMost (passing : Passing) (s t : Store) : Type 0 where
  pub capregs : (p i : ℕ) → (capreg_of (process_at s p) i ≡ capreg_of (process_at t p) i)
      ⊎ (may_pass passing (capreg_of (process_at t p) i) ≡ true)
  pub cappages : (n i : ℕ) → (cap_at (cappage_at s n) i ≡ cap_at (cappage_at t n) i)
      ⊎ (may_pass passing (cap_at (cappage_at t n) i) ≡ true)
  pub process_slots : (p i : ℕ) → slot_of (process_at s p) i ≡ slot_of (process_at t p) i
  pub slots : (g i : ℕ) → slot_at s.items g i ≡ slot_at t.items g i
  pub recipients : (e : ℕ) → (endpoint_at s e).recipient ≡ (endpoint_at t e).recipient

-- *A plain process gives nobody more than it may pass on*: in a state in which a set is plain, an event that a process of
-- the set performs writes nothing that may not be passed on.
abbrev pub PassLaw : Type 0
PassLaw = (passing : Passing) (own : CapKind → ℕ → Bool) (s : State) (e : Event) (p : ℕ)
    → own Process p ≡ true
    → performer s e ≡ Some p
    → IsPlain passing own s.store
    → PassesAtMost passing s.store (event_of s e).state.store
