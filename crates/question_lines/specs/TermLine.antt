-- The terms of an atom: what each says, or its first fault. (Own.)
use Rattle.std.specs.Prelude.{ℕ, zero, suc, ◌+◌, nat_le, nat_lt, if◌then◌else◌, List, length, drop, bytes_eq, codes, Option, Some, None, Result, Ok, Err}
use Rattle.cap_format.specs.declared.kind.CapKind.TheVariants as kinds
use Rattle.coy_text.specs.Words.{field}
use Rattle.object_store.specs.declared.sizes.Sizes.{Sizes}
use Rattle.listing_read.specs.Faults.{◌>>=◌, ensured}
use Rattle.listing_read.specs.declared.object_fault.QuestionFault.{QuestionFault}
use Rattle.listing_read.specs.declared.object_fault.QuestionFault.TheVariants.{BadTerm, WrongWords}
use Rattle.confine_check.specs.Fields.{kind_of}
use Rattle.questions.specs.declared.operand.Width.{Width}
use Rattle.questions.specs.declared.operand.Width.TheVariants.{Byte, Half, Word}
use Rattle.questions.specs.declared.operand.Operand.{Operand}
use Rattle.questions.specs.declared.operand.Operand.TheVariants as operands
use Rattle.questions.specs.declared.operand.Operator.{Operator}
use Rattle.questions.specs.declared.operand.Operator.TheVariants.{Plus, Minus, Both}
use Rattle.questions.specs.Term.{TermValue}
use Rattle.questions.specs.Term.TermValue.{Leaf, Node}
use Rattle.question_lines.specs.Faults.{as_question}
use Rattle.question_lines.specs.Fields.{object_from, offset_in, register_from, value_from}

-- ---- operands: the words begin with that of the operand, and others may stand behind it

-- `number VALUE`
unfoldable pub number_operand : List (List ℕ) → Result Operand QuestionFault
number_operand words = do
  _ ← ensured (nat_le 2 (length words)) WrongWords
  value ← value_from (field words 1)
  Ok (operands.Number value)

-- `reg P N`
unfoldable pub register_operand : Sizes → List (List ℕ) → Result Operand QuestionFault
register_operand sizes words = do
  _ ← ensured (nat_le 3 (length words)) WrongWords
  process ← object_from sizes kinds.Process (field words 1)
  register ← register_from (field words 2)
  Ok (operands.Register process register)

-- `pc P`
unfoldable pub pc_operand : Sizes → List (List ℕ) → Result Operand QuestionFault
pc_operand sizes words = do
  _ ← ensured (nat_le 2 (length words)) WrongWords
  process ← object_from sizes kinds.Process (field words 1)
  Ok (operands.Pc process)

-- `word PAGE OFFSET`, `half PAGE OFFSET` or `byte PAGE OFFSET`
unfoldable pub bytes_operand : Sizes → Width → List (List ℕ) → Result Operand QuestionFault
bytes_operand sizes width words = do
  _ ← ensured (nat_le 3 (length words)) WrongWords
  page ← object_from sizes kinds.Page (field words 1)
  offset ← offset_in width (field words 2)
  Ok (operands.Bytes width page offset)

-- `age KIND N`
unfoldable pub age_operand : Sizes → List (List ℕ) → Result Operand QuestionFault
age_operand sizes words = do
  _ ← ensured (nat_le 3 (length words)) WrongWords
  kind ← as_question (kind_of (field words 1))
  number ← object_from sizes kind (field words 2)
  Ok (operands.Age kind number)

-- `payload E`
unfoldable pub payload_operand : Sizes → List (List ℕ) → Result Operand QuestionFault
payload_operand sizes words = do
  _ ← ensured (nat_le 2 (length words)) WrongWords
  endpoint ← object_from sizes kinds.Endpoint (field words 1)
  Ok (operands.Payload endpoint)

-- an operand, by its first word
unfoldable pub operand_from : Sizes → List (List ℕ) → Result Operand QuestionFault
operand_from sizes words =
    if bytes_eq (field words 0) (codes "number") then number_operand words
    else (if bytes_eq (field words 0) (codes "reg") then register_operand sizes words
    else (if bytes_eq (field words 0) (codes "pc") then pc_operand sizes words
    else (if bytes_eq (field words 0) (codes "word") then bytes_operand sizes Word words
    else (if bytes_eq (field words 0) (codes "half") then bytes_operand sizes Half words
    else (if bytes_eq (field words 0) (codes "byte") then bytes_operand sizes Byte words
    else (if bytes_eq (field words 0) (codes "age") then age_operand sizes words
    else (if bytes_eq (field words 0) (codes "payload") then payload_operand sizes words else Err BadTerm)))))))

-- how many words an operand has
abbrev pub words_in : Operand → ℕ
words_in (operands.Number value) = 2
words_in (operands.Register process register) = 3
words_in (operands.Pc process) = 2
words_in (operands.Bytes width page offset) = 3
words_in (operands.Age kind number) = 3
words_in (operands.Payload endpoint) = 2

-- ---- terms: what the one from word `at` on says, and the number of the first word behind it

-- what a word makes of two terms
unfoldable pub operator_of : List ℕ → Option Operator
operator_of word =
    if bytes_eq word (codes "plus") then Some Plus
    else (if bytes_eq word (codes "minus") then Some Minus
    else (if bytes_eq word (codes "both") then Some Both else None))

-- a term that is an operand
unfoldable pub leaf_at : Sizes → List (List ℕ) → ℕ → Result (TermValue × ℕ) QuestionFault
leaf_at sizes words at = do
  operand ← operand_from sizes (drop at words)
  Ok (Leaf operand, at + words_in operand)

-- a term of an operator and the two terms behind it, where these are read so
unfoldable pub node_at : (ℕ → Result (TermValue × ℕ) QuestionFault) → ℕ → Operator → Result (TermValue × ℕ) QuestionFault
node_at read at operator = do
  first ← read (at + 1)
  second ← read first.1
  Ok (Node operator first.0 second.0, second.1)

-- by its first word
unfoldable pub term_by : (ℕ → Result (TermValue × ℕ) QuestionFault) → Sizes → List (List ℕ) → ℕ → Option Operator → Result (TermValue × ℕ) QuestionFault
term_by read sizes words at (Some operator) = node_at read at operator
term_by read sizes words at None = leaf_at sizes words at

-- a term in which terms nest to `deepest`
unfoldable pub term_at : Sizes → List (List ℕ) → ℕ → ℕ → Result (TermValue × ℕ) QuestionFault
term_at sizes words zero at = Err BadTerm
term_at sizes words (suc deepest) at = do
  _ ← ensured (nat_lt at (length words)) WrongWords
  term_by (term_at sizes words deepest) sizes words at (operator_of (field words at))
