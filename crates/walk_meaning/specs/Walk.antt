-- Walks: what an access of an address comes to, case by case in the order of the rules, over the
-- items of a map of objects. The ideas are those of Coyotos; order and limits are this project's.
use Rattle.std.specs.Prelude.{ℕ, zero, suc, ◌+◌, ◌/◌, ◌%◌, ◌^◌, min, Bool, true, false, not, ◌&&◌, ◌||◌, ◌==◌, nat_le, nat_lt, if◌then◌else◌, bit_or, Option, Some, None, Result, Ok, Err}
use Rattle.cap_format.specs.Capability.{Capability}
use Rattle.cap_format.specs.Kind.{is_memory}
use Rattle.cap_format.specs.Restr.{has, RO, NX, NC}
use Rattle.cap_format.specs.declared.fault.FaultCode.{FaultCode}
use Rattle.cap_format.specs.declared.fault.FaultCode.TheVariants.{InvalidDataReference, InvalidCapReference, DataAccessTypeError, CapAccessTypeError, AccessViolation, MalformedSpace}
use Rattle.cap_format.specs.declared.kind.CapKind.{CapKind}
use Rattle.cap_format.specs.declared.kind.CapKind.TheVariants.{Page, CapPage, Gpt, Window, LocalWindow}
use Rattle.cap_format.specs.declared.restr.Restr.{Restr}
use Rattle.guard_math.specs.Pass.{passes, remainder}
use Rattle.gpt_objects.specs.Header.{HeaderValue}
use Rattle.object_store.specs.Store.{Items, header_at, slot_at}
use Rattle.walk_meaning.specs.declared.at.At.{At}
use Rattle.walk_meaning.specs.declared.kind.Kind.{Kind}
use Rattle.walk_meaning.specs.declared.kind.Kind.TheVariants.{Fetch, Load, Store, CapLoad, CapStore}
use Rattle.walk_meaning.specs.declared.place.Place.{Place}
use Rattle.walk_meaning.specs.declared.place.WalkFault.{WalkFault}
use Rattle.walk_meaning.specs.declared.step.Step.{Step}
use Rattle.walk_meaning.specs.declared.step.Step.TheVariants.{Reach, Fault, Go}

-- fetch, load and store
abbrev pub is_data : Kind → Bool
is_data Fetch = true
is_data Load = true
is_data Store = true
is_data CapLoad = false
is_data CapStore = false

-- the code where nothing stands at the address
abbrev pub invalid : Kind → FaultCode
invalid kind = if is_data kind then InvalidDataReference else InvalidCapReference

-- RO denies the two kinds that write, NX denies fetches
abbrev pub denied : Kind → ℕ → Bool
denied Fetch restr = has restr NX
denied Load restr = false
denied Store restr = has restr RO
denied CapLoad restr = false
denied CapStore restr = has restr RO

-- the restrictions so far and a capability's own
abbrev pub restricted : Restr → ℕ → Restr
restricted met more = record { 0 = bit_or met.0 more }

-- the walk behind a capability's guard: the rest of the address goes on, and the capability's restrictions are met
abbrev pub past : Capability → At → At
past c w = record w {
  restr = restricted w.restr c.restr;
  address = remainder c.guard w.address;
  l2 = min w.l2 c.guard.l2g;
}

-- the end of a walk at the object that a capability names
abbrev pub reached_place : Capability → At → Place
reached_place c w = record { kind = c.kind; number = c.object; offset = w.address; restr = w.restr }

-- the rule of pages
abbrev pub at_page : Kind → Capability → At → Step
at_page kind c w =
    if nat_le 4096 w.address then Fault (invalid kind) w.handler
    else (if not (is_data kind) then Fault CapAccessTypeError w.handler
    else (if denied kind w.restr.0 then Fault AccessViolation w.handler
    else Reach (reached_place c w)))

-- the rule of capability pages
abbrev pub at_cappage : Kind → Capability → At → Step
at_cappage kind c w =
    if nat_le 4096 w.address then Fault (invalid kind) w.handler
    else (if is_data kind then Fault DataAccessTypeError w.handler
    else (if denied kind w.restr.0 then Fault AccessViolation w.handler
    else Reach (reached_place c w)))

-- slots 15 and 14 of a GPT are no way on where its flags make them its handler and its background
abbrev pub is_reserved : HeaderValue → ℕ → Bool
is_reserved h i = ((i == 15) && h.ha) || ((i == 14) && h.bg)

-- the handler GPT from this GPT on: itself where it has one and NC was not met
abbrev pub handler_from : HeaderValue → ℕ → At → Option ℕ
handler_from h g w = if h.ha && not (has w.restr.0 NC) then Some g else w.handler

-- the background GPT from this GPT on
abbrev pub background_from : HeaderValue → ℕ → At → Option ℕ
background_from h g w = if h.bg then Some g else w.background

-- the walk between a GPT and its slot
abbrev pub into_slot : HeaderValue → ℕ → At → At
into_slot h g w = record {
  holding = Some g;
  background = background_from h g w;
  handler = handler_from h g w;
  restr = w.restr;
  address = w.address % 2 ^ h.l2v;
  l2 = min w.l2 h.l2v;
}

-- the rule of GPTs; g is the GPT, h its header, i the slot that the address names
abbrev pub at_slot : HeaderValue → ℕ → ℕ → Kind → At → Step
at_slot h g i kind w =
    if nat_lt 15 i || is_reserved h i then Fault (invalid kind) (handler_from h g w)
    else Go (into_slot h g w) g i

-- the rule of GPTs at the slot that the address names
abbrev pub at_gpt : HeaderValue → ℕ → Kind → At → Step
at_gpt h g kind w = at_slot h g (w.address / 2 ^ h.l2v) kind w

-- the walk between a window and slot i of GPT g; a window's object is its offset
abbrev pub through_window : Capability → ℕ → At → At
through_window c g w = record w { holding = Some g; address = c.object + w.address }

-- the rule of windows: slot 14 of the background GPT
abbrev pub at_window : Option ℕ → Capability → At → Step
at_window None c w = Fault MalformedSpace w.handler
at_window (Some g) c w = Go (through_window c g w) g 14

-- the rule of local windows: a slot of the holding GPT that its flags don't reserve
abbrev pub at_local : Items → Option ℕ → Capability → At → Step
at_local o None c w = Fault MalformedSpace w.handler
at_local o (Some g) c w =
    if is_reserved (header_at o g) c.slot then Fault MalformedSpace w.handler
    else Go (through_window c g w) g c.slot

-- the rule of the capability's kind
abbrev pub at_kind : Items → Kind → CapKind → Capability → At → Step
at_kind o kind Page c w = at_page kind c w
at_kind o kind CapPage c w = at_cappage kind c w
at_kind o kind Gpt c w = at_gpt (header_at o c.object) c.object kind w
at_kind o kind Window c w = at_window w.background c w
at_kind o kind LocalWindow c w = at_local o w.holding c w
at_kind o kind _ c w = Fault (invalid kind) w.handler

-- what one capability makes of a walk: it has to be a memory capability whose guard lets the address pass
abbrev pub step : Items → Kind → Capability → At → Step
step o kind c w =
    if is_memory c.kind && passes c.guard w.address then at_kind o kind c.kind c (past c w)
    else Fault (invalid kind) w.handler

-- a fault's handler is what slot 15 of the handler GPT holds
abbrev pub handler_of : Items → Option ℕ → Option Capability
handler_of o None = None
handler_of o (Some g) = Some (slot_at o g 15)

-- the fault of a walk: why it reached nothing, and the capability that handles it
abbrev pub fault : Items → FaultCode → Option ℕ → WalkFault
fault o code handler = record { code = code; handler = handler_of o handler }

-- the walk from here on, where n capabilities may still be met
unfoldable pub walk : Items → Kind → ℕ → Capability → At → Result Place WalkFault
walk o kind zero c w = Err (fault o MalformedSpace w.handler)
walk o kind (suc n) c w = elim (step o kind c w) [
  | Reach place ↦ Ok place
  | Fault code handler ↦ Err (fault o code handler)
  | Go next g i ↦ walk o kind n (slot_at o g i) next
]

-- the start of a walk: no GPT, no restriction, and no size passed
abbrev pub start_at : ℕ → At
start_at address = record { holding = None; background = None; handler = None; restr = record { 0 = 0 }; address = address; l2 = 32 }

-- an access of an address through a space: a walk that may meet 32 capabilities
abbrev pub access : Items → Capability → ℕ → Kind → Result Place WalkFault
access o space address kind = walk o kind 32 space (start_at address)
