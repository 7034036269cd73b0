-- The atoms of a line: what each says, or its first fault. (Own.)
use Rattle.std.specs.Prelude.{ℕ, ◌==◌, ◌&&◌, ◌||◌, nat_le, Bool, true, false, if◌then◌else◌, List, [], length, drop, bytes_eq, codes, Option, Some, None, Result, Ok, Err}
use Rattle.cap_format.specs.declared.kind.CapKind.{CapKind}
use Rattle.cap_format.specs.declared.kind.CapKind.TheVariants as kinds
use Rattle.coy_text.specs.Words.{field}
use Rattle.object_store.specs.declared.sizes.Sizes.{Sizes}
use Rattle.listing_read.specs.Faults.{◌>>=◌, ensured}
use Rattle.confine_check.specs.Fields.{kind_of}
use Rattle.questions.specs.declared.atom.Atom.{Atom}
use Rattle.questions.specs.declared.operand.Width.TheVariants.{Word}
use Rattle.questions.specs.declared.operand.Comparison.{Comparison}
use Rattle.questions.specs.declared.operand.Comparison.TheVariants.{Same, Below, Most, Less}
use Rattle.questions.specs.declared.atom.Holding.TheVariants.{Object, Writable, Kind}
use Rattle.questions.specs.declared.atom.Condition.{Condition}
use Rattle.questions.specs.declared.atom.Condition.TheVariants as conditions
use Rattle.listing_read.specs.declared.object_fault.QuestionFault.{QuestionFault}
use Rattle.listing_read.specs.declared.object_fault.QuestionFault.TheVariants.{UnknownAtom, WrongWords, BadOrder}
use Rattle.question_lines.specs.Faults.{as_question}
use Rattle.question_lines.specs.Fields.{code_from, object_from, offset_in, register_from, value_from}
use Rattle.question_lines.specs.Parts.{each_part, parted}
use Rattle.question_lines.specs.TermLine.{term_at}

-- ---- conditions

-- P: a process, word 1
abbrev pub process_from : Sizes → List (List ℕ) → Result ℕ QuestionFault
process_from sizes words = object_from sizes kinds.Process (field words 1)

-- a word alone, as `stuck`
unfoldable pub alone : Condition → List (List ℕ) → Result Condition QuestionFault
alone condition words = do
  _ ← ensured (length words == 1) WrongWords
  Ok condition

-- `running P`
unfoldable pub running_atom : Sizes → List (List ℕ) → Result Condition QuestionFault
running_atom sizes words = do
  _ ← ensured (length words == 2) WrongWords
  process ← process_from sizes words
  Ok (conditions.Running process)

-- `receiving P`
unfoldable pub receiving_atom : Sizes → List (List ℕ) → Result Condition QuestionFault
receiving_atom sizes words = do
  _ ← ensured (length words == 2) WrongWords
  process ← process_from sizes words
  Ok (conditions.Receiving process)

-- `sleeps P`
unfoldable pub sleeps_atom : Sizes → List (List ℕ) → Result Condition QuestionFault
sleeps_atom sizes words = do
  _ ← ensured (length words == 2) WrongWords
  process ← process_from sizes words
  Ok (conditions.Sleeps process)

-- at any fault, or at that of word 2
unfoldable pub faulted_as : ℕ → List (List ℕ) → Result Condition QuestionFault
faulted_as process words = if length words == 2 then Ok (conditions.Faulted process) else (do
  code ← code_from (field words 2)
  Ok (conditions.FaultedBy process code))

-- `faulted P` or `faulted P CODE`
unfoldable pub faulted_atom : Sizes → List (List ℕ) → Result Condition QuestionFault
faulted_atom sizes words = do
  _ ← ensured (length words == 2 || length words == 3) WrongWords
  process ← process_from sizes words
  faulted_as process words

-- LAST: word 3, or the first where there is none
unfoldable pub last_from : ℕ → List (List ℕ) → Result ℕ QuestionFault
last_from first words = if length words == 3 then Ok first else value_from (field words 3)

-- `pc P ADDR` or `pc P FIRST LAST`
unfoldable pub pc_atom : Sizes → List (List ℕ) → Result Condition QuestionFault
pc_atom sizes words = do
  _ ← ensured (length words == 3 || length words == 4) WrongWords
  process ← process_from sizes words
  first ← value_from (field words 2)
  last ← last_from first words
  _ ← ensured (nat_le first last) BadOrder
  Ok (conditions.Pc process first last)

-- `reg P N VALUE`
unfoldable pub reg_atom : Sizes → List (List ℕ) → Result Condition QuestionFault
reg_atom sizes words = do
  _ ← ensured (length words == 4) WrongWords
  process ← process_from sizes words
  register ← register_from (field words 2)
  value ← value_from (field words 3)
  Ok (conditions.Register process register value)

-- `word PAGE OFFSET VALUE`
unfoldable pub word_atom : Sizes → List (List ℕ) → Result Condition QuestionFault
word_atom sizes words = do
  _ ← ensured (length words == 4) WrongWords
  page ← object_from sizes kinds.Page (field words 1)
  offset ← offset_in Word (field words 2)
  value ← value_from (field words 3)
  Ok (conditions.Word page offset value)

-- `waits P E`
unfoldable pub waits_atom : Sizes → List (List ℕ) → Result Condition QuestionFault
waits_atom sizes words = do
  _ ← ensured (length words == 3) WrongWords
  process ← process_from sizes words
  endpoint ← object_from sizes kinds.Endpoint (field words 2)
  Ok (conditions.Waits process endpoint)

-- `accepts P`
unfoldable pub accepts_atom : Sizes → List (List ℕ) → Result Condition QuestionFault
accepts_atom sizes words = do
  _ ← ensured (length words == 2) WrongWords
  process ← process_from sizes words
  Ok (conditions.Accepts process)

-- `asks P Q`
unfoldable pub asks_atom : Sizes → List (List ℕ) → Result Condition QuestionFault
asks_atom sizes words = do
  _ ← ensured (length words == 3) WrongWords
  process ← process_from sizes words
  on ← object_from sizes kinds.Process (field words 2)
  Ok (conditions.SleepsOn process on)

-- ANY: a kind of which no object is named
unfoldable pub any_from : List ℕ → Result CapKind QuestionFault
any_from word =
    if bytes_eq word (codes "range") then Ok kinds.Range
    else (if bytes_eq word (codes "sysctl") then Ok kinds.SysCtl
    else (if bytes_eq word (codes "kernlog") then Ok kinds.KernLog
    else (if bytes_eq word (codes "schedule") then Ok kinds.Schedule else Err WrongWords)))

-- `holds KIND N ANY`: another word in the place of ANY wants more behind it
unfoldable pub holds_any_atom : Sizes → List (List ℕ) → Result Condition QuestionFault
holds_any_atom sizes words = do
  of ← any_from (field words 3)
  kind ← as_question (kind_of (field words 1))
  number ← object_from sizes kind (field words 2)
  Ok (conditions.Holds kind number (Kind of))

-- the words end with `writable`
unfoldable pub is_writable : List (List ℕ) → Bool
is_writable words = (length words == 6) && bytes_eq (field words 5) (codes "writable")

-- `holds KIND N KIND M` or `holds KIND N KIND M writable`
unfoldable pub holds_object_atom : Sizes → List (List ℕ) → Result Condition QuestionFault
holds_object_atom sizes words = do
  _ ← ensured (length words == 5 || is_writable words) WrongWords
  kind ← as_question (kind_of (field words 1))
  number ← object_from sizes kind (field words 2)
  of ← as_question (kind_of (field words 3))
  named ← object_from sizes of (field words 4)
  Ok (conditions.Holds kind number (if length words == 5 then Object of named else Writable of named))

-- `holds ..`
unfoldable pub holds_atom : Sizes → List (List ℕ) → Result Condition QuestionFault
holds_atom sizes words = if length words == 4 then holds_any_atom sizes words else holds_object_atom sizes words

-- what a word asks of two terms
unfoldable pub comparison_of : List ℕ → Option Comparison
comparison_of word =
    if bytes_eq word (codes "same") then Some Same
    else (if bytes_eq word (codes "below") then Some Below
    else (if bytes_eq word (codes "most") then Some Most
    else (if bytes_eq word (codes "less") then Some Less else None)))

-- how many terms may stand in one another, the outermost among them
abbrev pub deepest_terms : ℕ
deepest_terms = 16

-- `same TERM TERM` and its like
unfoldable pub compares_atom : Sizes → Comparison → List (List ℕ) → Result Condition QuestionFault
compares_atom sizes comparison words = do
  first ← term_at sizes words deepest_terms 1
  second ← term_at sizes words deepest_terms first.1
  _ ← ensured (second.1 == length words) WrongWords
  Ok (conditions.Compares comparison first.0 second.0)

-- a condition on what a process waits for, by its first word
unfoldable pub waiting_condition : Sizes → List (List ℕ) → Result Condition QuestionFault
waiting_condition sizes words =
    if bytes_eq (field words 0) (codes "waits") then waits_atom sizes words
    else (if bytes_eq (field words 0) (codes "accepts") then accepts_atom sizes words
    else (if bytes_eq (field words 0) (codes "asks") then asks_atom sizes words else Err UnknownAtom))

-- a condition on a process, by its first word
unfoldable pub process_condition : Sizes → List (List ℕ) → Result Condition QuestionFault
process_condition sizes words =
    if bytes_eq (field words 0) (codes "running") then running_atom sizes words
    else (if bytes_eq (field words 0) (codes "receiving") then receiving_atom sizes words
    else (if bytes_eq (field words 0) (codes "faulted") then faulted_atom sizes words
    else (if bytes_eq (field words 0) (codes "sleeps") then sleeps_atom sizes words
    else (if bytes_eq (field words 0) (codes "pc") then pc_atom sizes words
    else (if bytes_eq (field words 0) (codes "reg") then reg_atom sizes words else waiting_condition sizes words)))))

-- one without terms
unfoldable pub plain_condition : Sizes → List (List ℕ) → Result Condition QuestionFault
plain_condition sizes words =
    if bytes_eq (field words 0) (codes "stuck") then alone conditions.Stuck words
    else (if bytes_eq (field words 0) (codes "halted") then alone conditions.Halted words
    else (if bytes_eq (field words 0) (codes "crossing") then alone conditions.Crossing words
    else (if bytes_eq (field words 0) (codes "word") then word_atom sizes words
    else (if bytes_eq (field words 0) (codes "holds") then holds_atom sizes words
    else process_condition sizes words))))

-- one that compares terms, or one without
unfoldable pub condition_by : Sizes → Option Comparison → List (List ℕ) → Result Condition QuestionFault
condition_by sizes (Some comparison) words = compares_atom sizes comparison words
condition_by sizes None words = plain_condition sizes words

-- any condition
abbrev pub condition_from : Sizes → List (List ℕ) → Result Condition QuestionFault
condition_from sizes words = condition_by sizes (comparison_of (field words 0)) words

-- ---- atoms

-- an atom by its condition
abbrev pub atom_of : Bool → Condition → Atom
atom_of negated condition = record { negated = negated; condition = condition }

-- `not`, and a condition behind it
unfoldable pub negated_from : Sizes → List (List ℕ) → Result Atom QuestionFault
negated_from sizes words = do
  condition ← condition_from sizes (drop 1 words)
  Ok (atom_of true condition)

-- a condition as it stands
unfoldable pub plain_from : Sizes → List (List ℕ) → Result Atom QuestionFault
plain_from sizes words = do
  condition ← condition_from sizes words
  Ok (atom_of false condition)

-- an atom
unfoldable pub atom_from : Sizes → List (List ℕ) → Result Atom QuestionFault
atom_from sizes words = if bytes_eq (field words 0) (codes "not") then negated_from sizes words else plain_from sizes words

-- ---- several

-- ATOM, or several with `and` between them
abbrev pub atoms_from : Sizes → List (List ℕ) → Result (List Atom) QuestionFault
atoms_from sizes words = each_part (atom_from sizes) (parted (codes "and") [] words)

-- such a group, or several with `or` between them
abbrev pub groups_from : Sizes → List (List ℕ) → Result (List (List Atom)) QuestionFault
groups_from sizes words = each_part (atoms_from sizes) (parted (codes "or") [] words)
