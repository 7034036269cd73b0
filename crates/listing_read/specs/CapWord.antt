-- The capability that a word gives, and its faults: that the word spells none, then that its object is not there, or
-- that its name was not given, then its guard.
use Rattle.std.specs.Prelude.{◌≡◌, ℕ, ◌-◌, ◌%◌, ◌^◌, ◌<◌, ◌==◌, ◌&&◌, ◌||◌, not, nat_lt, nat_le, Bool, true, List, ok_or, Option, Some, None, Result, Ok}
use Rattle.cap_format.specs.Kind.{is_counted, is_window, object_kind}
use Rattle.cap_format.specs.Guard.{guard_of}
use Rattle.cap_format.specs.Capability.{Capability, capability}
use Rattle.object_store.specs.declared.sizes.Sizes.{Sizes}
use Rattle.object_store.specs.Sizes.{size_in}
use Rattle.listing_read.specs.Faults.{◌>>=◌, ensured}
use Rattle.cap_words.specs.Spelling.{spelled_of}
use Rattle.listing_read.specs.Names.{number_called}
use Rattle.listing_read.specs.Terms.{has_names}
use Rattle.listing_read.specs.declared.terms.Terms.{Terms}
use Rattle.listing_read.specs.declared.fault.Fault.{Fault}
use Rattle.listing_read.specs.declared.fault.Fault.TheVariants.{BadCap, NoObject, NameUnknown, BadGuard}
use Rattle.cap_words.specs.declared.spelling.Spelled.{Spelled}

-- the machine has the object that is named, if one is
abbrev pub is_there : Sizes → Spelled → Bool
is_there sizes spelled =
    not (is_counted spelled.kind) || nat_lt spelled.object (size_in sizes (object_kind spelled.kind))

-- the guard is in its range
abbrev pub has_guard : Spelled → Bool
has_guard spelled =
    nat_le 12 spelled.l2g && nat_le spelled.l2g 32 && nat_lt spelled.matches (2 ^ (32 - spelled.l2g))

-- an offset is a multiple of the size of what passes the guard
abbrev pub is_aligned : Spelled → Bool
is_aligned spelled = not (is_window spelled.kind) || (spelled.object % 2 ^ spelled.l2g == 0)

-- the capability that is spelled, with count 0
abbrev pub meant : Spelled → Capability
meant spelled =
    capability spelled.kind spelled.restr 0 (guard_of spelled.l2g spelled.matches) spelled.object spelled.payload spelled.slot

-- what is spelled with the number for which its name stands
abbrev pub numbered_by : Terms → Spelled → Option (List ℕ) → Result Spelled Fault
numbered_by terms spelled None = Ok spelled
numbered_by terms spelled (Some name) = do
  number ← ok_or (number_called (object_kind spelled.kind) name terms.names) NameUnknown
  Ok (record spelled { object = number })

-- the capability of a word
unfoldable pub cap_of : Terms → List ℕ → Result Capability Fault
cap_of terms word = do
  words ← ok_or (spelled_of (has_names terms.version) word) BadCap
  spelled ← numbered_by terms words words.name
  _ ← ensured (is_there terms.sizes spelled) NoObject
  _ ← ensured (has_guard spelled && is_aligned spelled) BadGuard
  Ok (meant spelled)

-- a capability of count 0, to an object that the machine has if it is to one
pub record IsStated (sizes : Sizes) (cap : Capability) : Type 0 where
  pub uncounted : cap.count ≡ 0
  pub there : is_counted cap.kind ≡ true → cap.object < size_in sizes (object_kind cap.kind)
