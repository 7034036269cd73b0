-- The mnemonics of RV32I, each with the form of its line: which operands follow it, and the instruction that they make.
use Rattle.std.specs.Prelude.{ℕ, ◌+◌, ◌==◌, if◌then◌else◌, ℤ, pos, negsuc, List, [], ◌∷◌, length, Option, Some, None, option_map, bytes_eq, codes}
use Rattle.std.specs.Option.{option_or}
use Rattle.rv32_decode.specs.declared.insn.Insn.{Insn}
use Rattle.rv32_decode.specs.declared.insn.Insn.TheVariants.{Add, Sub, Sll, Slt, Sltu, Xor, Srl, Sra, Or, And, Addi, Slti, Sltiu, Xori, Ori, Andi, Slli, Srli, Srai, Lb, Lh, Lw, Lbu, Lhu, Jalr, Sb, Sh, Sw, Beq, Bne, Blt, Bge, Bltu, Bgeu, Jal, Lui, Auipc, Fence, Ecall, Ebreak}
use Rattle.coy_text.specs.Reading.{◌>>=◌, given}
use Rattle.coy_text.specs.Words.{field}
use Rattle.rv32_asm.specs.Operands.{register_of, offset_of, natural_of, immediate_12, address_of}

-- `m rd rs1 rs2`
abbrev pub registers : List (List ℕ × (ℕ → ℕ → ℕ → Insn))
registers =
    (codes "add", Add) ∷ (codes "sub", Sub) ∷ (codes "sll", Sll) ∷ (codes "slt", Slt) ∷ (codes "sltu", Sltu) ∷
    (codes "xor", Xor) ∷ (codes "srl", Srl) ∷ (codes "sra", Sra) ∷ (codes "or", Or) ∷ (codes "and", And) ∷ []

-- `m rd rs1 imm`
abbrev pub immediates : List (List ℕ × (ℕ → ℕ → ℤ → Insn))
immediates =
    (codes "addi", Addi) ∷ (codes "slti", Slti) ∷ (codes "sltiu", Sltiu) ∷
    (codes "xori", Xori) ∷ (codes "ori", Ori) ∷ (codes "andi", Andi) ∷ []

-- `m rd rs1 sh`
abbrev pub shifts : List (List ℕ × (ℕ → ℕ → ℕ → Insn))
shifts = (codes "slli", Slli) ∷ (codes "srli", Srli) ∷ (codes "srai", Srai) ∷ []

-- `m rd imm(rs1)`
abbrev pub loads : List (List ℕ × (ℕ → ℕ → ℤ → Insn))
loads =
    (codes "lb", Lb) ∷ (codes "lh", Lh) ∷ (codes "lw", Lw) ∷
    (codes "lbu", Lbu) ∷ (codes "lhu", Lhu) ∷ (codes "jalr", Jalr) ∷ []

-- `m rs2 imm(rs1)`
abbrev pub stores : List (List ℕ × (ℕ → ℕ → ℤ → Insn))
stores = (codes "sb", Sb) ∷ (codes "sh", Sh) ∷ (codes "sw", Sw) ∷ []

-- `m rs1 rs2 off`
abbrev pub branches : List (List ℕ × (ℕ → ℕ → ℤ → Insn))
branches =
    (codes "beq", Beq) ∷ (codes "bne", Bne) ∷ (codes "blt", Blt) ∷
    (codes "bge", Bge) ∷ (codes "bltu", Bltu) ∷ (codes "bgeu", Bgeu) ∷ []

-- `m rd imm`
abbrev pub uppers : List (List ℕ × (ℕ → ℕ → Insn))
uppers = (codes "lui", Lui) ∷ (codes "auipc", Auipc) ∷ []

-- `jal rd off`
abbrev pub jumps : List (List ℕ × (ℕ → ℤ → Insn))
jumps = (codes "jal", Jal) ∷ []

-- `m`
abbrev pub bares : List (List ℕ × Insn)
bares = (codes "fence", Fence) ∷ (codes "ecall", Ecall) ∷ (codes "ebreak", Ebreak) ∷ []

-- the form of a line, with the instruction that its operands make in the order in which the instruction has them
pub data Form : Type 0 where
  Registers : (ℕ → ℕ → ℕ → Insn) → Form
  Immediate : (ℕ → ℕ → ℤ → Insn) → Form
  Shift : (ℕ → ℕ → ℕ → Insn) → Form
  Load : (ℕ → ℕ → ℤ → Insn) → Form
  Store : (ℕ → ℕ → ℤ → Insn) → Form
  Branch : (ℕ → ℕ → ℤ → Insn) → Form
  Upper : (ℕ → ℕ → Insn) → Form
  Jump : (ℕ → ℤ → Insn) → Form
  Bare : Insn → Form

-- what stands behind a name in a table
abbrev pub named : {A : Type 0} → List (List ℕ × A) → List ℕ → Option A
named [] word = None
named (row ∷ rows) word = if bytes_eq word row.0 then Some row.1 else named rows word

-- the form of the lines that begin with a mnemonic
unfoldable pub form_of : List ℕ → Option Form
form_of word =
    option_or (option_map Registers (named registers word))
    (option_or (option_map Immediate (named immediates word))
    (option_or (option_map Shift (named shifts word))
    (option_or (option_map Load (named loads word))
    (option_or (option_map Store (named stores word))
    (option_or (option_map Branch (named branches word))
    (option_or (option_map Upper (named uppers word))
    (option_or (option_map Jump (named jumps word))
    (option_map Bare (named bares word)))))))))

-- the mnemonic and `n` operands
abbrev pub has_operands : ℕ → List (List ℕ) → Option (Unit {0})
has_operands n words = given (length words == n + 1)

-- `m rd rs1 rs2`
unfoldable pub registers_line : (ℕ → ℕ → ℕ → Insn) → List (List ℕ) → Option Insn
registers_line insn words = do
  _ ← has_operands 3 words
  rd ← register_of (field words 1)
  rs1 ← register_of (field words 2)
  rs2 ← register_of (field words 3)
  Some (insn rd rs1 rs2)

-- `m rd rs1 imm`, imm of 12 bits
unfoldable pub immediate_line : (ℕ → ℕ → ℤ → Insn) → List (List ℕ) → Option Insn
immediate_line insn words = do
  _ ← has_operands 3 words
  rd ← register_of (field words 1)
  rs1 ← register_of (field words 2)
  imm ← immediate_12 (field words 3)
  Some (insn rd rs1 imm)

-- `m rd rs1 sh`, sh from 0 to 31
unfoldable pub shift_line : (ℕ → ℕ → ℕ → Insn) → List (List ℕ) → Option Insn
shift_line insn words = do
  _ ← has_operands 3 words
  rd ← register_of (field words 1)
  rs1 ← register_of (field words 2)
  sh ← natural_of 31 (field words 3)
  Some (insn rd rs1 sh)

-- `m rd imm(rs1)`
unfoldable pub load_line : (ℕ → ℕ → ℤ → Insn) → List (List ℕ) → Option Insn
load_line insn words = do
  _ ← has_operands 2 words
  rd ← register_of (field words 1)
  address ← address_of (field words 2)
  Some (insn rd address.1 address.0)

-- `m rs2 imm(rs1)`
unfoldable pub store_line : (ℕ → ℕ → ℤ → Insn) → List (List ℕ) → Option Insn
store_line insn words = do
  _ ← has_operands 2 words
  rs2 ← register_of (field words 1)
  address ← address_of (field words 2)
  Some (insn address.1 rs2 address.0)

-- `m rs1 rs2 off`, off even and from -4096 to 4094
unfoldable pub branch_line : (ℕ → ℕ → ℤ → Insn) → List (List ℕ) → Option Insn
branch_line insn words = do
  _ ← has_operands 3 words
  rs1 ← register_of (field words 1)
  rs2 ← register_of (field words 2)
  off ← offset_of (negsuc 4095) (pos 4094) (field words 3)
  Some (insn rs1 rs2 off)

-- `m rd imm`, imm from 0 to 1048575
unfoldable pub upper_line : (ℕ → ℕ → Insn) → List (List ℕ) → Option Insn
upper_line insn words = do
  _ ← has_operands 2 words
  rd ← register_of (field words 1)
  imm ← natural_of 1048575 (field words 2)
  Some (insn rd imm)

-- `jal rd off`, off even and from -1048576 to 1048574
unfoldable pub jump_line : (ℕ → ℤ → Insn) → List (List ℕ) → Option Insn
jump_line insn words = do
  _ ← has_operands 2 words
  rd ← register_of (field words 1)
  off ← offset_of (negsuc 1048575) (pos 1048574) (field words 2)
  Some (insn rd off)

-- `m`
unfoldable pub bare_line : Insn → List (List ℕ) → Option Insn
bare_line insn words = do
  _ ← has_operands 0 words
  Some insn

-- the instruction of a line of a form
abbrev pub line_of : Form → List (List ℕ) → Option Insn
line_of (Registers insn) words = registers_line insn words
line_of (Immediate insn) words = immediate_line insn words
line_of (Shift insn) words = shift_line insn words
line_of (Load insn) words = load_line insn words
line_of (Store insn) words = store_line insn words
line_of (Branch insn) words = branch_line insn words
line_of (Upper insn) words = upper_line insn words
line_of (Jump insn) words = jump_line insn words
line_of (Bare insn) words = bare_line insn words
