-- A line of a question: what it says, or its first fault, and the question after it. (Own.)
use Rattle.std.specs.Prelude.{ℕ, suc, ◌≤◌, ◌==◌, ◌||◌, nat_le, Bool, if◌then◌else◌, List, length, drop, take, bytes_eq, codes, Result, Ok, Err, ⊤, ◌≡◌, true, false}
use Rattle.coy_io.specs.Limits.{line_limit}
use Rattle.coy_text.specs.Line.{is_visible_line, is_skipped}
use Rattle.coy_text.specs.Words.{words_of, field}
use Rattle.object_store.specs.declared.sizes.Sizes.{Sizes}
use Rattle.listing_read.specs.Faults.{◌>>=◌, ensured}
use Rattle.listing_read.specs.declared.object_fault.PolicyFault.{PolicyFault}
use Rattle.separation_policy.specs.Policy.{PolicyValue}
use Rattle.separation_lines.specs.PolicyLine.{policy_line, after_line as policy_after_line}
use Rattle.separation_lines.specs.declared.said.Said.{Said as PolicySaid}
use Rattle.questions.specs.declared.asks.Asks.{Asks}
use Rattle.questions.specs.declared.asks.Asks.TheVariants.{Never, Ever, Must, MustAfter, Count}
use Rattle.questions.specs.declared.choice.Choice.{Choice}
use Rattle.questions.specs.declared.choice.Choice.TheVariants.{Steps, Run, Tick}
use Rattle.questions.specs.Choice.{IsChoiceOf, is_among}
use Rattle.questions.specs.Question.{IsPropertyOf, QuestionValue, property_of, property_with, with_choice, with_depth, with_property, with_states}
use Rattle.listing_read.specs.declared.object_fault.QuestionFault.{QuestionFault}
use Rattle.listing_read.specs.declared.object_fault.QuestionFault.TheVariants.{LineTooLong, BadByte, UnknownQuestion, UnknownEvent, WrongWords, OfPolicy, Taken}
use Rattle.question_lines.specs.declared.fault.Untaken.{Untaken}
use Rattle.question_lines.specs.declared.fault.Untaken.TheVariants.{Refused, OutOfMemory}
use Rattle.question_lines.specs.declared.said.Next.{Next}
use Rattle.question_lines.specs.declared.said.Next.TheVariants as nexts
use Rattle.question_lines.specs.declared.said.Said.{Said}
use Rattle.question_lines.specs.declared.said.Said.TheVariants.{Nothing, May, Asked, Depth, States, Ends}
use Rattle.question_lines.specs.Fields.{hart_from, limit_from, number_from, times_from}
use Rattle.question_lines.specs.Parts.{before}
use Rattle.question_lines.specs.AtomLine.{groups_from}

-- ---- choices

-- N of `may step H N`, or 1 where it isn't said
unfoldable pub times_of : List (List ℕ) → Result ℕ QuestionFault
times_of words = if length words == 3 then Ok 1 else times_from (field words 3)

-- `may step H` or `may step H N`
unfoldable pub step_line : Sizes → List (List ℕ) → Result Choice QuestionFault
step_line sizes words = do
  _ ← ensured (length words == 3 || length words == 4) WrongWords
  hart ← hart_from sizes.harts (field words 2)
  times ← times_of words
  Ok (Steps hart times)

-- `may run H`
unfoldable pub run_line : Sizes → List (List ℕ) → Result Choice QuestionFault
run_line sizes words = do
  _ ← ensured (length words == 3) WrongWords
  hart ← hart_from sizes.harts (field words 2)
  Ok (Run hart)

-- `may tick H`
unfoldable pub tick_line : Sizes → List (List ℕ) → Result Choice QuestionFault
tick_line sizes words = do
  _ ← ensured (length words == 3) WrongWords
  hart ← hart_from sizes.harts (field words 2)
  Ok (Tick hart)

-- `may`, by its second word
unfoldable pub choice_line : Sizes → List (List ℕ) → Result Choice QuestionFault
choice_line sizes words =
    if bytes_eq (field words 1) (codes "step") then step_line sizes words
    else (if bytes_eq (field words 1) (codes "run") then run_line sizes words
    else (if bytes_eq (field words 1) (codes "tick") then tick_line sizes words else Err UnknownEvent))

-- `may ..`
unfoldable pub may_line : Sizes → List (List ℕ) → Result Said QuestionFault
may_line sizes words = do
  choice ← choice_line sizes words
  Ok (May choice)

-- ---- properties and limits

-- `never ..`, `ever ..`, `must ..` and `count ..`, line `n`
unfoldable pub asks_line : Sizes → ℕ → Asks → List (List ℕ) → Result Said QuestionFault
asks_line sizes n asks words = do
  groups ← groups_from sizes (drop 1 words)
  Ok (Asked (property_of n asks groups))

-- groups, `must` and groups: the first are those before the first `must`, or all there are
unfoldable pub must_after : Sizes → ℕ → List (List ℕ) → Result Said QuestionFault
must_after sizes n words = do
  first ← groups_from sizes (take (before (codes "must") words) words)
  groups ← groups_from sizes (drop (suc (before (codes "must") words)) words)
  Ok (Asked (property_with n MustAfter first groups))

-- `after .. must ..`
abbrev pub must_after_line : Sizes → ℕ → List (List ℕ) → Result Said QuestionFault
must_after_line sizes n words = must_after sizes n (drop 1 words)

-- `depth N`
unfoldable pub depth_line : List (List ℕ) → Result Said QuestionFault
depth_line words = do
  _ ← ensured (length words == 2) WrongWords
  depth ← number_from (field words 1)
  Ok (Depth depth)

-- `states N`
unfoldable pub states_line : List (List ℕ) → Result Said QuestionFault
states_line words = do
  _ ← ensured (length words == 2) WrongWords
  states ← limit_from (field words 1)
  Ok (States states)

-- `end`
unfoldable pub end_line : List (List ℕ) → Result Said QuestionFault
end_line words = do
  _ ← ensured (length words == 1) WrongWords
  Ok Ends

-- ---- lines

-- a line that asks nothing, by its first word
unfoldable pub plain_line : Sizes → List (List ℕ) → Result Said QuestionFault
plain_line sizes words =
    if bytes_eq (field words 0) (codes "may") then may_line sizes words
    else (if bytes_eq (field words 0) (codes "depth") then depth_line words
    else (if bytes_eq (field words 0) (codes "states") then states_line words
    else (if bytes_eq (field words 0) (codes "end") then end_line words else Err UnknownQuestion)))

-- any line that is not skipped
unfoldable pub said_by : Sizes → ℕ → List (List ℕ) → Result Said QuestionFault
said_by sizes n words =
    if bytes_eq (field words 0) (codes "never") then asks_line sizes n Never words
    else (if bytes_eq (field words 0) (codes "ever") then asks_line sizes n Ever words
    else (if bytes_eq (field words 0) (codes "must") then asks_line sizes n Must words
    else (if bytes_eq (field words 0) (codes "after") then must_after_line sizes n words
    else (if bytes_eq (field words 0) (codes "count") then asks_line sizes n Count words
    else plain_line sizes words))))

-- a line by its words
abbrev pub question_words : Sizes → ℕ → List (List ℕ) → Result Said QuestionFault
question_words sizes n words = if is_skipped words then Ok Nothing else said_by sizes n words

-- what line `n` says
unfoldable pub question_line : Sizes → ℕ → List ℕ → Result Said QuestionFault
question_line sizes n line = do
  _ ← ensured (nat_le (length line) line_limit) LineTooLong
  _ ← ensured (is_visible_line line) BadByte
  question_words sizes n (words_of line)

-- what a line says, or its fault where a line above it states the same choice
abbrev pub new_said : List Choice → Said → Result Said QuestionFault
new_said choices (May choice) = if is_among choices choice then Err Taken else Ok (May choice)
new_said choices said = Ok said

-- what line `n` of a question says
abbrev pub said_of : QuestionValue → ℕ → List ℕ → Result Said QuestionFault
said_of question n line = question_line question.sizes n line >>= new_said question.choices

-- the question after what a line says
abbrev pub after_said : QuestionValue → Said → QuestionValue
after_said question (May choice) = with_choice question choice
after_said question (Asked property) = with_property question property
after_said question (Depth depth) = with_depth question depth
after_said question (States states) = with_states question states
after_said question _ = question

-- the question after a line, as before where it is refused
abbrev pub after_line : QuestionValue → Result Said QuestionFault → QuestionValue
after_line question (Ok said) = after_said question said
after_line question (Err fault) = question

-- what the next line belongs to: the question, or behind its end the schedule
abbrev pub next_of : Said → Next
next_of Ends = nexts.Schedule
next_of _ = nexts.Question

-- the same of a line, or its fault
abbrev pub answered : Result Said QuestionFault → Result Next QuestionFault
answered (Ok said) = Ok (next_of said)
answered (Err fault) = Err fault

-- what is so of what a line says: it names what a machine of these sizes has
abbrev pub IsSaid : Sizes → Said → Type 0
IsSaid sizes (May choice) = IsChoiceOf sizes.harts choice
IsSaid sizes (Asked property) = IsPropertyOf sizes property
IsSaid sizes (States states) = 1 ≤ states
IsSaid sizes _ = Unit {0}

-- whether what a line says takes memory: a choice and a property do
abbrev pub is_kept : Said → Bool
is_kept (May choice) = true
is_kept (Asked property) = true
is_kept said = false

-- whether a line may take memory, by its first word
abbrev pub takes_memory : List (List ℕ) → Bool
takes_memory words =
    bytes_eq (field words 0) (codes "never") || bytes_eq (field words 0) (codes "ever") || bytes_eq (field words 0) (codes "must")
    || bytes_eq (field words 0) (codes "after") || bytes_eq (field words 0) (codes "count") || bytes_eq (field words 0) (codes "may")

-- ---- lines of the policy among them

-- a line of the policy, by its first word
abbrev pub is_of_policy : List (List ℕ) → Bool
is_of_policy words =
    bytes_eq (field words 0) (codes "domain") || bytes_eq (field words 0) (codes "reads") || bytes_eq (field words 0) (codes "writes")
    || bytes_eq (field words 0) (codes "halts") || bytes_eq (field words 0) (codes "logs")

-- the question goes on behind such a line, unless it is refused
abbrev pub policy_answered : Result PolicySaid PolicyFault → Result Next QuestionFault
policy_answered (Ok said) = Ok nexts.Question
policy_answered (Err fault) = Err (OfPolicy fault)

-- what line `n` is answered with
abbrev pub line_answer : PolicyValue → QuestionValue → ℕ → List ℕ → Result Next QuestionFault
line_answer policy question n line =
    if is_of_policy (words_of line) then policy_answered (policy_line policy line) else answered (said_of question n line)

-- the policy after it
abbrev pub line_policy : PolicyValue → List ℕ → PolicyValue
line_policy policy line = if is_of_policy (words_of line) then policy_after_line policy (policy_line policy line) else policy

-- and the question after it
abbrev pub line_question : QuestionValue → ℕ → List ℕ → QuestionValue
line_question question n line = if is_of_policy (words_of line) then question else after_line question (said_of question n line)

-- an answer, as it is told of a line that is read by itself
abbrev pub as_untaken : Result Next QuestionFault → Result Next Untaken
as_untaken (Ok next) = Ok next
as_untaken (Err fault) = Err (Refused fault)

-- why a line is not taken in: it is refused with its fault, or memory is wanting
abbrev pub IsUntaken : {A : Type 0} → Result A QuestionFault → Untaken → Type 0
IsUntaken said (Refused fault) = said ≡ Err fault
IsUntaken said OutOfMemory = ⊤
