-- The statements of a listing, one function for each: how many words the line has, and then its fields from left to
-- right, each with its faults. The first step that fails gives the line's fault.
use Rattle.std.specs.Prelude.{ℕ, ◌+◌, ◌-◌, ◌%◌, ◌==◌, ◌&&◌, not, nat_le, Bool, true, false, if◌then◌else◌, List, length, drop, ok_or, bytes_eq, codes, Result, Ok, Err}
use Rattle.cap_format.specs.declared.kind.CapKind.{CapKind}
use Rattle.cap_format.specs.declared.kind.CapKind.TheVariants as kinds
use Rattle.gpt_objects.specs.Header.{header_of}
use Rattle.rv32_decode.specs.declared.insn.Insn.{Insn}
use Rattle.rv32_asm.specs.Assembly.{insn_of}
use Rattle.rv32_asm.specs.declared.assembly.AsmFault.{AsmFault}
use Rattle.cap_words.specs.Name.{name_of}
use Rattle.cap_words.specs.Spelling.{restr_of}
use Rattle.listing_read.specs.Faults.{◌>>=◌, ensured}
use Rattle.listing_read.specs.Names.{is_taken}
use Rattle.listing_read.specs.Terms.{has_names}
use Rattle.listing_read.specs.declared.terms.Terms.{Terms}
use Rattle.listing_read.specs.declared.names.Naming.{Naming}
use Rattle.coy_text.specs.Words.{field}
use Rattle.listing_read.specs.Fields.{hex_number_of, object_of, plain_object_of, first_page_of, between_of, hex_to, aligned_to, either_of}
use Rattle.listing_read.specs.Bytes.{bytes_of}
use Rattle.listing_read.specs.CapWord.{cap_of}
use Rattle.listing_read.specs.Statement.{is_recipient}
use Rattle.listing_read.specs.declared.fault.Fault.{Fault}
use Rattle.listing_read.specs.declared.fault.Fault.TheVariants.{UnknownStatement, WrongWords, BadValue, BadHex, BadInstruction, BadName, NameTaken}
use Rattle.listing_read.specs.declared.statement.Statement.{Statement}
use Rattle.listing_read.specs.declared.statement.Statement.TheVariants.{Page, Code, CapSlot, Gpt, GptSlot, Endpoint, Process, Reg, CapReg, Count, Region}

-- an even number of 2 to 128 hexadecimal digits
unfoldable pub hex_bytes_of : List ℕ → Result (List ℕ) Fault
hex_bytes_of digits = do
  _ ← ensured (nat_le 2 (length digits) && nat_le (length digits) 128 && (length digits % 2 == 0)) BadHex
  ok_or (bytes_of digits) BadHex

-- `page N OFF HEX`
unfoldable pub page_line : Terms → List (List ℕ) → Result Statement Fault
page_line terms words = do
  _ ← ensured (length words == 4) WrongWords
  number ← object_of terms kinds.Page (field words 1)
  at ← hex_to 4095 (field words 2)
  bytes ← hex_bytes_of (field words 3)
  _ ← ensured (nat_le (at + length bytes) 4096) BadValue
  Ok (Page number at bytes)

-- the instruction that the assembler gives
abbrev pub assembled : Result Insn AsmFault → Result Insn Fault
assembled (Ok insn) = Ok insn
assembled (Err fault) = Err BadInstruction

-- `code N OFF INSTRUCTION`, where the instruction has one word or more
unfoldable pub code_line : Terms → List (List ℕ) → Result Statement Fault
code_line terms words = do
  _ ← ensured (nat_le 4 (length words)) WrongWords
  number ← object_of terms kinds.Page (field words 1)
  at ← aligned_to 4092 (field words 2)
  insn ← assembled (insn_of (drop 3 words))
  Ok (Code number at insn)

-- `cap N S CAP`
unfoldable pub cap_line : Terms → List (List ℕ) → Result Statement Fault
cap_line terms words = do
  _ ← ensured (length words == 4) WrongWords
  number ← object_of terms kinds.CapPage (field words 1)
  slot ← between_of 0 255 (field words 2)
  cap ← cap_of terms (field words 3)
  Ok (CapSlot number slot cap)

-- one flag
abbrev pub one_flag : List ℕ → Result (Bool × Bool) Fault
one_flag word =
    if bytes_eq word (codes "ha") then Ok (true, false)
    else (if bytes_eq word (codes "bg") then Ok (false, true) else Err BadValue)

-- both flags, in this order
abbrev pub both_flags : List ℕ → List ℕ → Result (Bool × Bool) Fault
both_flags first second =
    if bytes_eq first (codes "ha") && bytes_eq second (codes "bg") then Ok (true, true) else Err BadValue

-- `[ha] [bg]`
unfoldable pub flags_of : List (List ℕ) → Result (Bool × Bool) Fault
flags_of words =
    if length words == 3 then Ok (false, false)
    else (if length words == 4 then one_flag (field words 3) else both_flags (field words 3) (field words 4))

-- `gpt N V [ha] [bg]`
unfoldable pub gpt_line : Terms → List (List ℕ) → Result Statement Fault
gpt_line terms words = do
  _ ← ensured (nat_le 3 (length words) && nat_le (length words) 5) WrongWords
  number ← object_of terms kinds.Gpt (field words 1)
  l2v ← between_of 12 31 (field words 2)
  flags ← flags_of words
  Ok (Gpt number (header_of l2v flags.0 flags.1))

-- `slot N S CAP`
unfoldable pub slot_line : Terms → List (List ℕ) → Result Statement Fault
slot_line terms words = do
  _ ← ensured (length words == 4) WrongWords
  number ← object_of terms kinds.Gpt (field words 1)
  slot ← between_of 0 15 (field words 2)
  cap ← cap_of terms (field words 3)
  Ok (GptSlot number slot cap)

-- `endpoint N REC ID PAYLOAD FLAG`
unfoldable pub endpoint_line : Terms → List (List ℕ) → Result Statement Fault
endpoint_line terms words = do
  _ ← ensured (length words == 6) WrongWords
  number ← object_of terms kinds.Endpoint (field words 1)
  recipient ← cap_of terms (field words 2)
  _ ← ensured (is_recipient recipient.kind) BadValue
  id ← hex_number_of (field words 3)
  payload ← hex_number_of (field words 4)
  matching ← either_of (codes "match") (codes "plain") (field words 5)
  Ok (Endpoint number recipient id payload matching)

-- `process N PC SPACE SCHEDULE HANDLER STATE`
unfoldable pub process_line : Terms → List (List ℕ) → Result Statement Fault
process_line terms words = do
  _ ← ensured (length words == 7) WrongWords
  number ← object_of terms kinds.Process (field words 1)
  pc ← aligned_to 4294967295 (field words 2)
  space ← cap_of terms (field words 3)
  schedule ← cap_of terms (field words 4)
  handler ← cap_of terms (field words 5)
  runs ← either_of (codes "run") (codes "stop") (field words 6)
  Ok (Process number pc space schedule handler runs)

-- `reg N I VALUE`
unfoldable pub reg_line : Terms → List (List ℕ) → Result Statement Fault
reg_line terms words = do
  _ ← ensured (length words == 4) WrongWords
  number ← object_of terms kinds.Process (field words 1)
  index ← between_of 1 31 (field words 2)
  value ← hex_number_of (field words 3)
  Ok (Reg number index value)

-- `capreg N I CAP`
unfoldable pub capreg_line : Terms → List (List ℕ) → Result Statement Fault
capreg_line terms words = do
  _ ← ensured (length words == 4) WrongWords
  number ← object_of terms kinds.Process (field words 1)
  index ← between_of 1 31 (field words 2)
  cap ← cap_of terms (field words 3)
  Ok (CapReg number index cap)

-- KIND of `count`
unfoldable pub kind_of : List ℕ → Result CapKind Fault
kind_of word =
    if bytes_eq word (codes "page") then Ok kinds.Page
    else (if bytes_eq word (codes "cappage") then Ok kinds.CapPage
    else (if bytes_eq word (codes "gpt") then Ok kinds.Gpt
    else (if bytes_eq word (codes "endpoint") then Ok kinds.Endpoint
    else (if bytes_eq word (codes "process") then Ok kinds.Process else Err BadValue))))

-- `count KIND N C`
unfoldable pub count_line : Terms → List (List ℕ) → Result Statement Fault
count_line terms words = do
  _ ← ensured (length words == 4) WrongWords
  kind ← kind_of (field words 1)
  number ← object_of terms kind (field words 2)
  count ← between_of 0 1048575 (field words 3)
  Ok (Count kind number count)

-- LETTERS of `region`, where there are any
unfoldable pub letters_of : List (List ℕ) → Result ℕ Fault
letters_of words = if length words == 5 then Ok 0 else ok_or (restr_of (field words 5)) BadValue

-- `region N S COUNT PAGE [LETTERS]`
unfoldable pub region_line : Terms → List (List ℕ) → Result Statement Fault
region_line terms words = do
  _ ← ensured (nat_le 5 (length words) && nat_le (length words) 6) WrongWords
  gpt ← object_of terms kinds.Gpt (field words 1)
  slot ← between_of 0 15 (field words 2)
  count ← between_of 1 (16 - slot) (field words 3)
  page ← first_page_of terms count (field words 4)
  restr ← letters_of words
  Ok (Region gpt slot count page (record { 0 = restr }))

-- `name NAME KIND N`
unfoldable pub naming_line : Terms → List (List ℕ) → Result Naming Fault
naming_line terms words = do
  _ ← ensured (length words == 4) WrongWords
  name ← ok_or (name_of (field words 1)) BadName
  _ ← ensured (not (is_taken name terms.names)) NameTaken
  kind ← kind_of (field words 2)
  number ← plain_object_of terms.sizes kind (field words 3)
  Ok (record { name = name; kind = kind; number = number })

-- a statement of version 2 by its first word
unfoldable pub later_statement_of : Terms → List (List ℕ) → Result Statement Fault
later_statement_of terms words =
    if has_names terms.version && bytes_eq (field words 0) (codes "region") then region_line terms words
    else Err UnknownStatement

-- a statement by its first word
unfoldable pub statement_of : Terms → List (List ℕ) → Result Statement Fault
statement_of terms words =
    if bytes_eq (field words 0) (codes "page") then page_line terms words
    else (if bytes_eq (field words 0) (codes "code") then code_line terms words
    else (if bytes_eq (field words 0) (codes "cap") then cap_line terms words
    else (if bytes_eq (field words 0) (codes "gpt") then gpt_line terms words
    else (if bytes_eq (field words 0) (codes "slot") then slot_line terms words
    else (if bytes_eq (field words 0) (codes "endpoint") then endpoint_line terms words
    else (if bytes_eq (field words 0) (codes "process") then process_line terms words
    else (if bytes_eq (field words 0) (codes "reg") then reg_line terms words
    else (if bytes_eq (field words 0) (codes "capreg") then capreg_line terms words
    else (if bytes_eq (field words 0) (codes "count") then count_line terms words
    else later_statement_of terms words)))))))))
