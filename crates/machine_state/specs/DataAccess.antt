-- Accesses of data: one walk of a process's space at this moment, and the bytes at its end.
use Rattle.std.specs.Prelude.{ℕ, ◌+◌, ◌*◌, ◌/◌, ◌%◌, zero, suc, List, [], ◌∷◌, Result}
use Rattle.page_store.specs.Page.{bytes_at, with_bytes}
use Rattle.object_store.specs.Store.{page_at}
use Rattle.walk_meaning.specs.declared.kind.Kind.{Kind}
use Rattle.walk_meaning.specs.declared.place.WalkFault.{WalkFault}
use Rattle.walk_meaning.specs.Walk.{access}
use Rattle.walk_engine.specs.declared.hit.Hit.{Hit}
use Rattle.walk_engine.specs.Answer.{hit_of}
use Rattle.machine_state.specs.declared.record.Record.{Record}
use Rattle.machine_state.specs.declared.record.Record.TheVariants.{Access}
use Rattle.machine_state.specs.State.{State, space_of}
use Rattle.machine_state.specs.Setters.{set_page}
use Rattle.machine_state.specs.Outcome.{Touch}
use Rattle.machine_state.specs.Outcome.Touch.{DataAccess}

-- the number that bytes spell, the lowest first (RV32I)
abbrev pub number_of : List ℕ → ℕ
number_of [] = 0
number_of (byte ∷ bytes) = byte + 256 * number_of bytes

-- the lowest `count` bytes of a number, the lowest first
abbrev pub bytes_of : ℕ → ℕ → List ℕ
bytes_of zero value = []
bytes_of (suc count) value = value % 256 ∷ bytes_of count (value / 256)

-- where an access of data ends: a walk at this moment (Coyotos)
abbrev pub data_access : State → ℕ → ℕ → Kind → Result Hit WalkFault
data_access s p address kind = hit_of (access s.store.items (space_of s p) address kind)

-- the touch that such an access is: over the items of this moment, through the process's space
abbrev pub data_touch : State → ℕ → ℕ → Kind → Touch
data_touch s p address kind = DataAccess s.store.items (space_of s p) address kind

-- the record of an access that reached
abbrev pub reached : ℕ → Kind → ℕ → Hit → Record
reached p kind address hit = Access p kind address hit.page

-- the number of so many bytes at a place
abbrev pub number_at : State → Hit → ℕ → ℕ
number_at s hit size = number_of (bytes_at (page_at s.store hit.page) hit.offset size)

-- the bytes of a page after a store
abbrev pub written : State → Hit → ℕ → ℕ → State
written s hit size value = set_page s hit.page (with_bytes (page_at s.store hit.page) hit.offset (bytes_of size value))
