-- System calls 1 and 2: a capability goes between a register and a slot of a capability page. (Coyotos; the registers
-- and the order of refusals are this project's.)
use Rattle.std.specs.Prelude.{ℕ, ◌%◌, ◌==◌, nat_le, if◌then◌else◌, Result, Ok, Err}
use Rattle.process_objects.specs.Process.{capreg_of}
use Rattle.walk_meaning.specs.declared.kind.Kind.TheVariants.{CapLoad, CapStore}
use Rattle.walk_meaning.specs.declared.place.Place.{Place}
use Rattle.walk_meaning.specs.declared.place.WalkFault.{WalkFault}
use Rattle.machine_state.specs.State.{State, process}
use Rattle.machine_state.specs.Setters.{set_capreg, advance}
use Rattle.machine_state.specs.Outcome.{Outcome, cappage_name, done, recorded, touched, changing}
use Rattle.machine_state.specs.CapAccess.{cap_access, cap_touch, cap_reached, cap_found, cap_stored}
use Rattle.messages.specs.Fault.{fault, misaligned, malformed}

-- a loadcap to register c`to` whose address is aligned
abbrev pub cap_loaded_from : State → ℕ → ℕ → ℕ → Result Place WalkFault → Outcome
cap_loaded_from s p at to (Err f) = fault s p f.code at f.handler
cap_loaded_from s p at to (Ok place) =
    recorded (cap_reached p CapLoad at place) (done (advance (set_capreg s p to (cap_found s place)) p))

-- call 1, loadcap: whether there is such a register first, then the alignment, then the walk
unfoldable pub load_cap : State → ℕ → ℕ → ℕ → Outcome
load_cap s p at to =
    if nat_le to 31 then
    (if at % 16 == 0 then touched (cap_touch s p at CapLoad) (cap_loaded_from s p at to (cap_access s p at CapLoad))
    else misaligned s p at)
    else malformed s p

-- a storecap of register c`from` whose address is aligned
abbrev pub cap_stored_to : State → ℕ → ℕ → ℕ → Result Place WalkFault → Outcome
cap_stored_to s p at from (Err f) = fault s p f.code at f.handler
cap_stored_to s p at from (Ok place) =
    changing (cappage_name place.number)
    (recorded (cap_reached p CapStore at place) (done (advance (cap_stored s place (capreg_of (process s p) from)) p)))

-- call 2, storecap: the same in the same order
unfoldable pub store_cap : State → ℕ → ℕ → ℕ → Outcome
store_cap s p at from =
    if nat_le from 31 then
    (if at % 16 == 0 then touched (cap_touch s p at CapStore) (cap_stored_to s p at from (cap_access s p at CapStore))
    else misaligned s p at)
    else malformed s p
