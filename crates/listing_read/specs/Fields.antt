-- The fields of a line, each with its faults in the order in which they are tried: that it is no number, or no name that
-- was given, then that it names no object or is out of its range.
use Rattle.std.specs.Prelude.{ℕ, ◌+◌, ◌%◌, ◌==◌, ◌&&◌, nat_lt, nat_le, Bool, true, false, if◌then◌else◌, List, [], bytes_eq, ok_or, Option, Some, None, Result, Ok, Err}
use Rattle.coy_text.specs.Numeral.{dec_of, hex_of}
use Rattle.cap_words.specs.Name.{name_of, called}
use Rattle.cap_format.specs.declared.kind.CapKind.{CapKind}
use Rattle.cap_format.specs.declared.kind.CapKind.TheVariants as kinds
use Rattle.object_store.specs.declared.sizes.Sizes.{Sizes}
use Rattle.object_store.specs.Sizes.{size_in}
use Rattle.listing_read.specs.Faults.{◌>>=◌, ensured}
use Rattle.listing_read.specs.Names.{number_called}
use Rattle.listing_read.specs.Terms.{has_names}
use Rattle.listing_read.specs.declared.terms.Terms.{Terms}
use Rattle.listing_read.specs.declared.fault.Fault.{Fault}
use Rattle.listing_read.specs.declared.fault.Fault.TheVariants.{BadNumber, NoObject, BadValue, BadName, NameUnknown}

-- a decimal number
abbrev pub decimal_of : List ℕ → Result ℕ Fault
decimal_of word = ok_or (dec_of word) BadNumber

-- a hexadecimal number
abbrev pub hex_number_of : List ℕ → Result ℕ Fault
hex_number_of word = ok_or (hex_of word) BadNumber

-- a number of an object that a machine of these sizes has
abbrev pub there_of : Sizes → CapKind → ℕ → Result ℕ Fault
there_of sizes kind number = do
  _ ← ensured (nat_lt number (size_in sizes kind)) NoObject
  Ok number

-- the same in decimal, whatever names there are
unfoldable pub plain_object_of : Sizes → CapKind → List ℕ → Result ℕ Fault
plain_object_of sizes kind word = do
  number ← decimal_of word
  there_of sizes kind number

-- the number for which a name stands
unfoldable pub named_number_of : Terms → CapKind → List ℕ → Result ℕ Fault
named_number_of terms kind word = do
  name ← ok_or (name_of word) BadName
  ok_or (number_called kind name terms.names) NameUnknown

-- the number for which a word stands, or the name behind its `$`
abbrev pub number_by : Terms → CapKind → List ℕ → Option (List ℕ) → Result ℕ Fault
number_by terms kind word None = decimal_of word
number_by terms kind word (Some name) = named_number_of terms kind name

-- the number of an object: in decimal, and in version 2 also as `$NAME`
unfoldable pub number_of_object : Terms → CapKind → List ℕ → Result ℕ Fault
number_of_object terms kind word = number_by terms kind word (called (has_names terms.version) word)

-- the same of one that the machine has
unfoldable pub object_of : Terms → CapKind → List ℕ → Result ℕ Fault
object_of terms kind word = do
  number ← number_of_object terms kind word
  there_of terms.sizes kind number

-- the first of so many pages that the machine has
unfoldable pub first_page_of : Terms → ℕ → List ℕ → Result ℕ Fault
first_page_of terms count word = do
  number ← number_of_object terms kinds.Page word
  _ ← ensured (nat_le (number + count) terms.sizes.pages) NoObject
  Ok number

-- a decimal number from `least` to `most`
unfoldable pub between_of : ℕ → ℕ → List ℕ → Result ℕ Fault
between_of least most word = do
  number ← decimal_of word
  _ ← ensured (nat_le least number && nat_le number most) BadValue
  Ok number

-- a hexadecimal number of at most `most`
unfoldable pub hex_to : ℕ → List ℕ → Result ℕ Fault
hex_to most word = do
  number ← hex_number_of word
  _ ← ensured (nat_le number most) BadValue
  Ok number

-- a hexadecimal number of at most `most` that is a multiple of 4
unfoldable pub aligned_to : ℕ → List ℕ → Result ℕ Fault
aligned_to most word = do
  number ← hex_number_of word
  _ ← ensured (nat_le number most && (number % 4 == 0)) BadValue
  Ok number

-- whether a word is the first of two, and it is one of them
unfoldable pub either_of : List ℕ → List ℕ → List ℕ → Result Bool Fault
either_of first second word =
    if bytes_eq word first then Ok true else (if bytes_eq word second then Ok false else Err BadValue)
