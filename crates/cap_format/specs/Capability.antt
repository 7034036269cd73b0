-- Capabilities, by their fields.
use Rattle.std.specs.Prelude.{ℕ, ◌<◌, ◌≡◌, Bool, true, false}
use Rattle.cap_format.specs.declared.kind.CapKind.{CapKind}
use Rattle.cap_format.specs.declared.kind.CapKind.TheVariants.{Null, Gpt, Window, LocalWindow, Entry, Schedule, Range, Discrim, KernLog, SysCtl}
use Rattle.cap_format.specs.Kind.{is_memory, is_window, restr_limit, count_limit, object_limit, payload_limit, slot_limit}
use Rattle.cap_format.specs.Guard.{GuardValue, Divides, IsGuard, no_guard, whole_guard}

-- a capability: its object is the object number, the offset or the priority (Coyotos; the count is this project's own)
pub record Capability : Type 0 where
  pub kind : CapKind
  pub restr : ℕ
  pub count : ℕ
  pub guard : GuardValue
  pub object : ℕ
  pub payload : ℕ
  pub slot : ℕ

-- a capability by its fields
abbrev pub capability : CapKind → ℕ → ℕ → GuardValue → ℕ → ℕ → ℕ → Capability
capability kind restr count guard object payload slot =
    record { kind = kind; restr = restr; count = count; guard = guard; object = object; payload = payload; slot = slot }

-- a guard that the kind may have: 12/0 where it uses none, and for a window one that divides the offset
pub record Suits (guard : GuardValue) (kind : CapKind) (object : ℕ) : Type 0 where
  pub unguarded : is_memory kind ≡ false → guard ≡ no_guard
  pub aligned : is_window kind ≡ true → Divides guard object

-- every field is in the range of the kind, and is 0 where the kind has no such field
pub record IsCapability (c : Capability) : Type 0 where
  pub restr : c.restr < restr_limit c.kind
  pub count : c.count < count_limit c.kind
  pub guard : IsGuard c.guard
  pub unguarded : is_memory c.kind ≡ false → c.guard ≡ no_guard
  pub object : c.object < object_limit c.kind
  pub aligned : is_window c.kind ≡ true → Divides c.guard c.object
  pub payload : c.payload < payload_limit c.kind
  pub slot : c.slot < slot_limit c.kind

-- the kinds whose capabilities have no field
abbrev pub is_plain : CapKind → Bool
is_plain Null = true
is_plain Range = true
is_plain Discrim = true
is_plain KernLog = true
is_plain SysCtl = true
is_plain _ = false

-- the capability of a kind that has no field
abbrev pub plain : CapKind → Capability
plain kind = capability kind 0 0 no_guard 0 0 0

-- the capability to nothing
abbrev pub null : Capability
null = plain Null

-- the guard through which all of an object is seen
abbrev pub object_guard : CapKind → GuardValue
object_guard Gpt = whole_guard
object_guard _ = no_guard

-- a capability to an object, without restrictions
abbrev pub to_object : CapKind → ℕ → ℕ → Capability
to_object kind number count = capability kind 0 count (object_guard kind) number 0 0

-- the right to send to an endpoint with a payload
abbrev pub entry : ℕ → ℕ → ℕ → Capability
entry endpoint count payload = capability Entry 0 count no_guard endpoint payload 0

-- the right to run at a priority
abbrev pub schedule : ℕ → Capability
schedule priority = capability Schedule 0 0 no_guard priority 0 0

-- a window at an offset of the background space
abbrev pub window : ℕ → GuardValue → ℕ → Capability
window restr guard offset = capability Window restr 0 guard offset 0 0

-- a window at an offset of what a slot of the same GPT names
abbrev pub local_window : ℕ → ℕ → GuardValue → ℕ → Capability
local_window slot restr guard offset = capability LocalWindow restr 0 guard offset 0 slot

-- the same with another count
abbrev pub with_count : Capability → ℕ → Capability
with_count c count = record c { count = count }

-- the same without its count: the capability of the abstract machine
abbrev pub bare : Capability → Capability
bare c = record c { count = 0 }

-- the same with another guard
abbrev pub with_guard : Capability → GuardValue → Capability
with_guard c guard = record c { guard = guard }
