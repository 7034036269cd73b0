-- The fields of a line that name objects of a machine, each with its faults in the order in which they are tried. (Own.)
use Rattle.std.specs.Prelude.{ℕ, ◌+◌, ◌==◌, nat_le, nat_lt, if◌then◌else◌, List, length, bytes_eq, codes, ok_or, Result, Ok, Err}
use Rattle.cap_format.specs.declared.kind.CapKind.{CapKind}
use Rattle.cap_format.specs.declared.kind.CapKind.TheVariants as kinds
use Rattle.coy_text.specs.Numeral.{dec_of}
use Rattle.coy_text.specs.Words.{field}
use Rattle.listing_read.specs.Faults.{◌>>=◌, ensured}
use Rattle.confine_check.specs.declared.block.Block.{Block}
use Rattle.listing_read.specs.declared.object_fault.FieldFault.{FieldFault}
use Rattle.listing_read.specs.declared.object_fault.FieldFault.TheVariants.{BadValue, BadNumber, NoObject, BadOrder}

-- KIND
unfoldable pub kind_of : List ℕ → Result CapKind FieldFault
kind_of word =
    if bytes_eq word (codes "page") then Ok kinds.Page
    else (if bytes_eq word (codes "cappage") then Ok kinds.CapPage
    else (if bytes_eq word (codes "gpt") then Ok kinds.Gpt
    else (if bytes_eq word (codes "endpoint") then Ok kinds.Endpoint
    else (if bytes_eq word (codes "process") then Ok kinds.Process else Err BadValue))))

-- N and M: the number of an object of which there are `size`
unfoldable pub object_of : ℕ → List ℕ → Result ℕ FieldFault
object_of size word = do
  number ← ok_or (dec_of word) BadNumber
  _ ← ensured (nat_lt number size) NoObject
  Ok number

-- the last object, where N is word `at`: M where it stands, and otherwise the first is the last
unfoldable pub last_of : ℕ → ℕ → ℕ → List (List ℕ) → Result ℕ FieldFault
last_of size from at words = if length words == at + 2 then object_of size (field words (at + 1)) else Ok from

-- N or N M, from word `at` on: objects of a kind of which there are `size`
unfoldable pub named_block : CapKind → ℕ → ℕ → List (List ℕ) → Result Block FieldFault
named_block kind size at words = do
  from ← object_of size (field words at)
  to ← last_of size from at words
  _ ← ensured (nat_le from to) BadOrder
  Ok (record { kind = kind; from = from; to = to })
