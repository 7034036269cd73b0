-- The spelling of a capability: four little-endian numbers of 32 bits, 16 bytes (this project's own).
use Rattle.std.specs.Prelude.{ℕ, ◌+◌, ◌*◌, ◌%◌, ◌^◌, ◌<◌, ◌≡◌, List, ◌++◌, length, slice_index, if◌then◌else◌}
use Rattle.byteorder.specs.Endian.{little_bytes, little_number}
use Rattle.cap_format.specs.declared.kind.CapKind.{CapKind}
use Rattle.cap_format.specs.Kind.{number_of, is_memory}
use Rattle.cap_format.specs.Guard.{GuardValue, IsGuard}
use Rattle.cap_format.specs.Capability.{Capability, IsCapability}

-- number 0: the type in bits 0 to 5, the restrictions in 6 to 10, the count in 12 to 31
abbrev pub head_of : Capability → ℕ
head_of c = number_of c.kind + 64 * c.restr + 4096 * c.count

-- a guard in 32 bits: l2g in bits 0 to 5, the match in 12 to 31
abbrev pub guard_number : GuardValue → ℕ
guard_number guard = guard.l2g + 4096 * guard.matches

-- number 1: the guard of a memory kind, the payload of an entry, 0 otherwise
abbrev pub second_of : Capability → ℕ
second_of c = if is_memory c.kind then guard_number c.guard else c.payload

-- numbers 2 and 3 are the object number, offset or priority, and the slot
abbrev pub spelling : Capability → List ℕ
spelling c = little_bytes 4 (head_of c) ++ little_bytes 4 (second_of c) ++ little_bytes 4 c.object ++ little_bytes 4 c.slot

-- a guard of this number
pub record HasNumber (guard : GuardValue) (n : ℕ) : Type 0 where
  pub in_range : IsGuard guard
  pub number_is : n ≡ guard_number guard

-- a capability of this kind that has these four numbers
pub record HasNumbers (c : Capability) (kind : CapKind) (head second object slot : ℕ) : Type 0 where
  pub in_range : IsCapability c
  pub kind_is : kind ≡ c.kind
  pub head_is : head ≡ head_of c
  pub second_is : second ≡ second_of c
  pub object_is : object ≡ c.object
  pub slot_is : slot ≡ c.slot

-- the bytes are the spelling of this capability
pub record Spells (bytes : List ℕ) (c : Capability) : Type 0 where
  pub in_range : IsCapability c
  pub bytes_are : bytes ≡ spelling c

-- the type number that these bytes give
abbrev pub type_of : List ℕ → ℕ
type_of bytes = little_number 4 bytes % 64

-- no two capabilities have one spelling
abbrev pub SpellingsDiffer : Type 0
SpellingsDiffer = (c d : Capability) → IsCapability c → IsCapability d → spelling c ≡ spelling d → c ≡ d

-- four bytes are a number of 32 bits, and such a number is four bytes
pub record FourBytes : Type 0 where
  pub to_number : (n : ℕ) → n < 2 ^ 32 → little_number 4 (little_bytes 4 n) ≡ n
  pub to_bytes : (bytes : List ℕ) → length bytes ≡ 4 → ((i : ℕ) → slice_index bytes i < 256) → little_bytes 4 (little_number 4 bytes) ≡ bytes
