-- The fields of a line of a question, each with its faults in the order in which they are tried. (Own.)
use Rattle.std.specs.Prelude.{ℕ, ◌+◌, ◌%◌, ◌==◌, ◌&&◌, nat_le, nat_lt, if◌then◌else◌, List, bytes_eq, codes, ok_or, Result, Ok, Err}
use Rattle.cap_format.specs.declared.kind.CapKind.{CapKind}
use Rattle.cap_format.specs.declared.fault.FaultCode.{FaultCode}
use Rattle.cap_format.specs.declared.fault.FaultCode.TheVariants.{InvalidDataReference, InvalidCapReference, DataAccessTypeError, CapAccessTypeError, AccessViolation, MalformedSpace, NoSchedule, MalformedSyscall, BadAlign, BadOpcode, Breakpoint}
use Rattle.coy_text.specs.Numeral.{dec_of, hex_of}
use Rattle.object_store.specs.declared.sizes.Sizes.{Sizes}
use Rattle.object_store.specs.Sizes.{size_in}
use Rattle.listing_read.specs.Faults.{◌>>=◌, ensured}
use Rattle.questions.specs.declared.operand.Width.{Width}
use Rattle.questions.specs.Term.{bytes_in}
use Rattle.listing_read.specs.declared.object_fault.QuestionFault.{QuestionFault}
use Rattle.listing_read.specs.declared.object_fault.QuestionFault.TheVariants.{BadNumber, NoHart, BadRepeat, NoObject, BadCode, BadRegister, BadOffset, BadLimit}

-- a decimal number
abbrev pub number_from : List ℕ → Result ℕ QuestionFault
number_from word = ok_or (dec_of word) BadNumber

-- an address or a value, in hexadecimal
abbrev pub value_from : List ℕ → Result ℕ QuestionFault
value_from word = ok_or (hex_of word) BadNumber

-- H: a hart
unfoldable pub hart_from : ℕ → List ℕ → Result ℕ QuestionFault
hart_from harts word = do
  hart ← number_from word
  _ ← ensured (nat_lt hart harts) NoHart
  Ok hart

-- N: how many steps
unfoldable pub times_from : List ℕ → Result ℕ QuestionFault
times_from word = do
  times ← number_from word
  _ ← ensured (nat_le 1 times && nat_le times 1000000) BadRepeat
  Ok times

-- an object of a kind
unfoldable pub object_from : Sizes → CapKind → List ℕ → Result ℕ QuestionFault
object_from sizes kind word = do
  number ← number_from word
  _ ← ensured (nat_lt number (size_in sizes kind)) NoObject
  Ok number

-- N: a register
unfoldable pub register_from : List ℕ → Result ℕ QuestionFault
register_from word = do
  number ← number_from word
  _ ← ensured (nat_le number 31) BadRegister
  Ok number

-- OFFSET: that of so many bytes in a page, a multiple of how many they are
unfoldable pub offset_in : Width → List ℕ → Result ℕ QuestionFault
offset_in width word = do
  offset ← value_from word
  _ ← ensured (nat_le (offset + bytes_in width) 4096 && (offset % bytes_in width == 0)) BadOffset
  Ok offset

-- N: how many states are kept
unfoldable pub limit_from : List ℕ → Result ℕ QuestionFault
limit_from word = do
  number ← number_from word
  _ ← ensured (nat_le 1 number) BadLimit
  Ok number

-- CODE: a fault by its name in a record
unfoldable pub code_from : List ℕ → Result FaultCode QuestionFault
code_from word =
    if bytes_eq word (codes "InvalidDataReference") then Ok InvalidDataReference
    else (if bytes_eq word (codes "InvalidCapReference") then Ok InvalidCapReference
    else (if bytes_eq word (codes "DataAccessTypeError") then Ok DataAccessTypeError
    else (if bytes_eq word (codes "CapAccessTypeError") then Ok CapAccessTypeError
    else (if bytes_eq word (codes "AccessViolation") then Ok AccessViolation
    else (if bytes_eq word (codes "MalformedSpace") then Ok MalformedSpace
    else (if bytes_eq word (codes "NoSchedule") then Ok NoSchedule
    else (if bytes_eq word (codes "MalformedSyscall") then Ok MalformedSyscall
    else (if bytes_eq word (codes "BadAlign") then Ok BadAlign
    else (if bytes_eq word (codes "BadOpcode") then Ok BadOpcode
    else (if bytes_eq word (codes "Breakpoint") then Ok Breakpoint else Err BadCode))))))))))
