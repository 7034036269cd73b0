-- Accesses of capabilities: one walk of a process's space to a slot of a capability page. (Coyotos)
use Rattle.std.specs.Prelude.{ℕ, ◌/◌, Result}
use Rattle.cap_format.specs.Capability.{Capability}
use Rattle.page_store.specs.CapPage.{cap_at, with_cap}
use Rattle.object_store.specs.Store.{cappage_at}
use Rattle.operations.specs.Weak.{read_through}
use Rattle.walk_meaning.specs.declared.kind.Kind.{Kind}
use Rattle.walk_meaning.specs.declared.place.Place.{Place}
use Rattle.walk_meaning.specs.declared.place.WalkFault.{WalkFault}
use Rattle.walk_meaning.specs.Walk.{access}
use Rattle.machine_state.specs.declared.record.Record.{Record}
use Rattle.machine_state.specs.declared.record.Record.TheVariants.{Access}
use Rattle.machine_state.specs.State.{State, space_of}
use Rattle.machine_state.specs.Setters.{set_cappage}
use Rattle.machine_state.specs.Outcome.{Touch}
use Rattle.machine_state.specs.Outcome.Touch.{CapAccess}

-- where an access of a capability ends: a walk at this moment
abbrev pub cap_access : State → ℕ → ℕ → Kind → Result Place WalkFault
cap_access s p address kind = access s.store.items (space_of s p) address kind

-- the touch that such an access is
abbrev pub cap_touch : State → ℕ → ℕ → Kind → Touch
cap_touch s p address kind = CapAccess s.store.items (space_of s p) address kind

-- the slot of a capability page at a place: each has sixteen bytes
abbrev pub slot_in : Place → ℕ
slot_in place = place.offset / 16

-- the capability at a place, weakened where the way there is weak
abbrev pub cap_found : State → Place → Capability
cap_found s place = read_through place.restr.0 (cap_at (cappage_at s.store place.number) (slot_in place))

-- the state with a capability written to a place
abbrev pub cap_stored : State → Place → Capability → State
cap_stored s place cap = set_cappage s place.number (with_cap (cappage_at s.store place.number) (slot_in place) cap)

-- the record of an access that reached
abbrev pub cap_reached : ℕ → Kind → ℕ → Place → Record
cap_reached p kind address place = Access p kind address place.number
