-- The fields of an image, each with its faults in the order in which they are tried once the field is whole. The ranges
-- are those of a listing; that an object is there is asked of the sizes at the image's start.
use Rattle.std.specs.Prelude.{ℕ, ◌+◌, ◌-◌, ◌*◌, ◌/◌, ◌%◌, ◌^◌, ◌==◌, ◌&&◌, ◌||◌, not, nat_lt, nat_le, min, Bool, true, if◌then◌else◌, List, [], ◌∷◌, drop, bytes_eq, codes, ok_or, Option, Some, None, option_and_then, Result, Ok}
use Rattle.std.specs.List.{find}
use Rattle.byteorder.specs.Endian.{little_bytes, little_number}
use Rattle.cap_format.specs.declared.kind.CapKind.{CapKind}
use Rattle.cap_format.specs.declared.kind.CapKind.TheVariants as kinds
use Rattle.cap_format.specs.Kind.{number_of, kind_with, is_memory, is_window, is_counted, object_kind, restr_limit, object_limit, payload_limit, slot_limit}
use Rattle.cap_format.specs.Guard.{GuardValue, guard_of, no_guard}
use Rattle.cap_format.specs.Capability.{Capability, capability}
use Rattle.cap_format.specs.Spelling.{spelling, type_of}
use Rattle.object_store.specs.declared.sizes.Sizes.{Sizes}
use Rattle.object_store.specs.Sizes.{size_in}
use Rattle.rv32_decode.specs.declared.insn.Insn.{Insn}
use Rattle.rv32_decode.specs.Table.{insn_at}
use Rattle.rv32_decode.specs.Word.{word_of}
use Rattle.listing_read.specs.Faults.{◌>>=◌, ensured}
use Rattle.listing_read.specs.Statement.{is_recipient}
use Rattle.image_binary.specs.declared.fault.ImageWord.TheVariants.{BadMagic, BadMachine, BadCap, BadInstruction, NoObject, BadValue}
use Rattle.image_binary.specs.declared.fault.ImageWord.{ImageWord}
use Rattle.image_binary.specs.Fields.{Fields, field, number, tested}

-- ---- numbers

-- a byte from `least` to `most`
abbrev pub between : ℕ → ℕ → Fields ℕ
between least most = number 1 (λ n. nat_le least n && nat_le n most) BadValue

-- any number of 32 bits
abbrev pub word : Fields ℕ
word = number 4 (λ _. true) BadValue

-- the number of an object of this kind
abbrev pub object : Sizes → CapKind → Fields ℕ
object sizes kind = number 2 (λ n. nat_lt n (size_in sizes kind)) NoObject

-- the first of so many pages
abbrev pub first_page : Sizes → ℕ → Fields ℕ
first_page sizes count = number 2 (λ n. nat_le (n + count) sizes.pages) NoObject

-- an offset in a page
abbrev pub offset : Fields ℕ
offset = number 2 (λ n. nat_le n 4095) BadValue

-- the offset of a whole word in a page
abbrev pub word_offset : Fields ℕ
word_offset = number 2 (λ n. nat_le n 4092 && (n % 4 == 0)) BadValue

-- how many bytes stand from an offset on: 1 to 64, and no more than the page has there
abbrev pub length_from : ℕ → Fields ℕ
length_from at = between 1 (min 64 (4096 - at))

-- a pc
abbrev pub code_address : Fields ℕ
code_address = number 4 (λ n. n % 4 == 0) BadValue

-- an allocation count
abbrev pub allocation_count : Fields ℕ
allocation_count = number 4 (λ n. nat_le n 1048575) BadValue

-- one of the six sizes
abbrev pub size : ℕ → ℕ → Fields ℕ
size least most = number 2 (λ n. nat_le least n && nat_le n most) BadMachine

-- ---- marks

-- 1 where something is so, and 0 otherwise
abbrev pub mark_number : Bool → ℕ
mark_number mark = if mark then 1 else 0

-- the mark that a byte gives: 0 or 1, and no other number
unfoldable pub mark_of : List ℕ → Result Bool ImageWord
mark_of bytes = do
  n ← tested 1 (λ n. nat_le n 1) BadValue bytes
  Ok (n == 1)

-- a mark is one byte
abbrev pub mark : Fields Bool
mark = field 1 (λ mark. little_bytes 1 (mark_number mark)) mark_of

-- the flags of a GPT: 1 for a handler, and 2 for a background
unfoldable pub flags_of : List ℕ → Result (Bool × Bool) ImageWord
flags_of bytes = do
  n ← tested 1 (λ n. nat_le n 3) BadValue bytes
  Ok (n % 2 == 1, nat_le 2 n)

-- flags are one byte
abbrev pub flags : Fields (Bool × Bool)
flags = field 1 (λ flags. little_bytes 1 (mark_number flags.0 + 2 * mark_number flags.1)) flags_of

-- the eight letters at the start
unfoldable pub magic_of : List ℕ → Result (Unit {0}) ImageWord
magic_of bytes = ensured (bytes_eq bytes (codes "COYIMG02")) BadMagic

-- they are `COYIMG02`, and no others
abbrev pub magic : Fields (Unit {0})
magic = field 8 (λ _. codes "COYIMG02") magic_of

-- ---- a kind of objects, by its type number

-- the five kinds that have objects
unfoldable pub object_kinds : List CapKind
object_kinds = kinds.Page ∷ kinds.CapPage ∷ kinds.Gpt ∷ kinds.Endpoint ∷ kinds.Process ∷ []

-- the kind of objects of a type number
abbrev pub object_kind_with : ℕ → Option CapKind
object_kind_with number = find (λ kind. number_of kind == number) object_kinds

-- the kind of objects that a byte gives; of no other number is there one
unfoldable pub object_kind_of : List ℕ → Result CapKind ImageWord
object_kind_of bytes = ok_or (object_kind_with (little_number 1 bytes)) BadValue

-- a kind of objects is one byte
abbrev pub kind_of_object : Fields CapKind
kind_of_object = field 1 (λ kind. little_bytes 1 (number_of kind)) object_kind_of

-- ---- an instruction, by the one word that is written for it

-- the instruction that these 32 bits are written for
abbrev pub instruction_with : ℕ → Option Insn
instruction_with bits = option_and_then (λ insn. if word_of insn == bits then Some insn else None) (insn_at bits)

-- the instruction that four bytes give; other words are none
unfoldable pub instruction_of : List ℕ → Result Insn ImageWord
instruction_of bytes = ok_or (instruction_with (little_number 4 bytes)) BadInstruction

-- an instruction is four bytes, its least first
abbrev pub instruction : Fields Insn
instruction = field 4 (λ insn. little_bytes 4 (word_of insn)) instruction_of

-- ---- a capability without a count

-- the guard in the second of its four numbers, if its kind has one
abbrev pub guard_in : CapKind → ℕ → GuardValue
guard_in kind second = if is_memory kind then guard_of (second % 64) (second / 4096) else no_guard

-- the capability of this kind that its four numbers would make
abbrev pub made_of : CapKind → ℕ → ℕ → ℕ → ℕ → Capability
made_of kind head second object slot =
    capability kind (head / 64) 0 (guard_in kind second) object (if is_memory kind then 0 else second) slot

-- a guard is in its range
abbrev pub is_guard : GuardValue → Bool
is_guard guard = nat_le 12 guard.l2g && nat_le guard.l2g 32 && nat_lt guard.matches (2 ^ (32 - guard.l2g))

-- each field of a capability without a count is in the range of its kind
abbrev pub is_in_range : Capability → Bool
is_in_range c =
    nat_lt c.restr (restr_limit c.kind) && is_guard c.guard && nat_lt c.object (object_limit c.kind)
    && (not (is_window c.kind) || (c.object % 2 ^ c.guard.l2g == 0))
    && nat_lt c.payload (payload_limit c.kind) && nat_lt c.slot (slot_limit c.kind)

-- the capability of this kind without a count that sixteen bytes spell, if they spell one
abbrev pub spelled_by : List ℕ → CapKind → Option Capability
spelled_by bytes kind =
    let c = made_of kind (little_number 4 bytes) (little_number 4 (drop 4 bytes)) (little_number 4 (drop 8 bytes)) (little_number 4 (drop 12 bytes)) in
    if is_in_range c && bytes_eq (spelling c) bytes then Some c else None

-- the capability without a count that they spell
unfoldable pub uncounted_of : List ℕ → Option Capability
uncounted_of bytes = option_and_then (spelled_by bytes) (kind_with (type_of bytes))

-- the object that is named is there, if one is
abbrev pub is_there : Sizes → Capability → Bool
is_there sizes cap = not (is_counted cap.kind) || nat_lt cap.object (size_in sizes (object_kind cap.kind))

-- the capability that bytes give: its fields are judged first, then whether its object is there
unfoldable pub cap_of : Sizes → List ℕ → Result Capability ImageWord
cap_of sizes bytes = do
  cap ← ok_or (uncounted_of bytes) BadCap
  _ ← ensured (is_there sizes cap) NoObject
  Ok cap

-- a capability is sixteen bytes
abbrev pub cap : Sizes → Fields Capability
cap sizes = field 16 spelling (cap_of sizes)

-- a process or Null, which an endpoint may have for its recipient
unfoldable pub recipient_of : Sizes → List ℕ → Result Capability ImageWord
recipient_of sizes bytes = do
  cap ← ok_or (uncounted_of bytes) BadCap
  _ ← ensured (is_recipient cap.kind) BadCap
  _ ← ensured (is_there sizes cap) NoObject
  Ok cap

-- a recipient is sixteen bytes
abbrev pub recipient : Sizes → Fields Capability
recipient sizes = field 16 spelling (recipient_of sizes)
