-- Terms: numbers of 32 bits that are read of a state, and how two of them may stand to each other. (Own.)
use Rattle.std.specs.Prelude.{ℕ, ◌+◌, ◌<◌, ◌≤◌, ◌==◌, nat_le, nat_lt, int_lt, bit_and, Bool, List, [], ◌∷◌, ◌++◌}
use Rattle.page_store.specs.Page.{bytes_at}
use Rattle.rv32_user.specs.Word.{sum_of, difference_of, signed_word}
use Rattle.object_store.specs.declared.sizes.Sizes.{Sizes}
use Rattle.object_store.specs.Sizes.{size_in}
use Rattle.object_store.specs.Store.{count_of, endpoint_at, page_at}
use Rattle.machine_state.specs.DataAccess.{number_of as number_spelled}
use Rattle.machine_state.specs.State.{State, pc_of, register_of}
use Rattle.questions.specs.declared.operand.Width.{Width}
use Rattle.questions.specs.declared.operand.Width.TheVariants.{Byte, Half, Word}
use Rattle.questions.specs.declared.operand.Operand.{Operand}
use Rattle.questions.specs.declared.operand.Operand.TheVariants as operands
use Rattle.questions.specs.declared.operand.Operator.{Operator}
use Rattle.questions.specs.declared.operand.Operator.TheVariants.{Plus, Minus, Both}
use Rattle.questions.specs.declared.operand.Comparison.{Comparison}
use Rattle.questions.specs.declared.operand.Comparison.TheVariants.{Same, Below, Most, Less}

-- a term: an operand, or what an operator makes of two terms
pub data TermValue : Type 0 where
  Leaf : Operand → TermValue
  Node : Operator → TermValue → TermValue → TermValue

-- ---- values

-- how many bytes are read
abbrev pub bytes_in : Width → ℕ
bytes_in Byte = 1
bytes_in Half = 2
bytes_in Word = 4

-- the number that so many bytes of a page spell, the least first
abbrev pub number_in : List ℕ → ℕ → Width → ℕ
number_in page offset width = number_spelled (bytes_at page offset (bytes_in width))

-- the 32 bits of an operand in a state
abbrev pub operand_value : State → Operand → ℕ
operand_value s (operands.Number value) = value
operand_value s (operands.Register p i) = register_of s p i
operand_value s (operands.Pc p) = pc_of s p
operand_value s (operands.Bytes width page offset) = number_in (page_at s.store page) offset width
operand_value s (operands.Age kind n) = count_of s.store.items kind n
operand_value s (operands.Payload e) = (endpoint_at s.store e).payload

-- what an operator makes of two words: a sum and a difference modulo 2^32, or the bits that both have
abbrev pub operated : Operator → ℕ → ℕ → ℕ
operated Plus a b = sum_of a b
operated Minus a b = difference_of a b
operated Both a b = bit_and a b

-- the 32 bits of a term in a state
abbrev pub term_value : State → TermValue → ℕ
term_value s (Leaf operand) = operand_value s operand
term_value s (Node operator first second) = operated operator (term_value s first) (term_value s second)

-- two words stand so to each other: `Less` alone reads them in two's complement
abbrev pub compares : Comparison → ℕ → ℕ → Bool
compares Same a b = a == b
compares Below a b = nat_lt a b
compares Most a b = nat_le a b
compares Less a b = int_lt (signed_word a) (signed_word b)

-- ---- what is watched

-- the processes whose pc or registers an operand reads
abbrev pub operand_processes : Operand → List ℕ
operand_processes (operands.Register p i) = p ∷ []
operand_processes (operands.Pc p) = p ∷ []
operand_processes _ = []

-- the pages whose bytes it reads
abbrev pub operand_pages : Operand → List ℕ
operand_pages (operands.Bytes width page offset) = page ∷ []
operand_pages _ = []

-- those of all operands of a term
abbrev pub read_by : (Operand → List ℕ) → TermValue → List ℕ
read_by of (Leaf operand) = of operand
read_by of (Node operator first second) = read_by of first ++ read_by of second

-- ---- ranges

-- an operand on a machine of these sizes names what the machine has
abbrev pub IsOperandOf : Sizes → Operand → Type 0
IsOperandOf sizes (operands.Number value) = Unit {0}
IsOperandOf sizes (operands.Register p i) = (p < sizes.processes) × (i ≤ 31)
IsOperandOf sizes (operands.Pc p) = p < sizes.processes
IsOperandOf sizes (operands.Bytes width page offset) = (page < sizes.pages) × (offset + bytes_in width ≤ 4096)
IsOperandOf sizes (operands.Age kind n) = n < size_in sizes kind
IsOperandOf sizes (operands.Payload e) = e < sizes.endpoints

-- so does each operand of a term
abbrev pub IsTermOf : Sizes → TermValue → Type 0
IsTermOf sizes (Leaf operand) = IsOperandOf sizes operand
IsTermOf sizes (Node operator first second) = IsTermOf sizes first × IsTermOf sizes second
