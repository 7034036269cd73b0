-- The text of an instruction: its mnemonic and its operands with one space between them, all numbers in decimal.
use Rattle.std.specs.Prelude.{ℕ, ℤ, List, [], ◌∷◌, ◌++◌, decimal, codes}
use Rattle.std.specs.Fmt.{signed_decimal}
use Rattle.std.specs.List.{join_with_byte}
use Rattle.rv32_decode.specs.declared.insn.Insn.{Insn}
use Rattle.rv32_decode.specs.declared.insn.Insn.TheVariants.{Add, Sub, Sll, Slt, Sltu, Xor, Srl, Sra, Or, And, Addi, Slti, Sltiu, Xori, Ori, Andi, Slli, Srli, Srai, Lb, Lh, Lw, Lbu, Lhu, Jalr, Sb, Sh, Sw, Beq, Bne, Blt, Bge, Bltu, Bgeu, Jal, Lui, Auipc, Fence, Ecall, Ebreak}

-- a register
abbrev pub register_text : ℕ → List ℕ
register_text register = codes "x" ++ decimal register

-- `imm(rs1)`
abbrev pub address_text : ℤ → ℕ → List ℕ
address_text imm register = signed_decimal imm ++ (codes "(" ++ (register_text register ++ codes ")"))

-- the operands of a line with three registers
abbrev pub registers_words : ℕ → ℕ → ℕ → List (List ℕ)
registers_words first second third = register_text first ∷ register_text second ∷ register_text third ∷ []

-- two registers and an immediate or a distance in bytes
abbrev pub number_words : ℕ → ℕ → ℤ → List (List ℕ)
number_words first second number = register_text first ∷ register_text second ∷ signed_decimal number ∷ []

-- two registers and a distance in bits
abbrev pub shift_words : ℕ → ℕ → ℕ → List (List ℕ)
shift_words rd rs1 sh = register_text rd ∷ register_text rs1 ∷ decimal sh ∷ []

-- a register and an address
abbrev pub address_words : ℕ → ℤ → ℕ → List (List ℕ)
address_words register imm base = register_text register ∷ address_text imm base ∷ []

-- a register and a distance in bytes
abbrev pub jump_words : ℕ → ℤ → List (List ℕ)
jump_words rd off = register_text rd ∷ signed_decimal off ∷ []

-- a register and an upper immediate
abbrev pub upper_words : ℕ → ℕ → List (List ℕ)
upper_words rd imm = register_text rd ∷ decimal imm ∷ []

-- a mnemonic and its operands, with one space between two words
abbrev pub spaced : List ℕ → List (List ℕ) → List ℕ
spaced name operands = join_with_byte 32 (name ∷ operands)

-- the words of an instruction: its mnemonic and its operands
abbrev pub words_from : Insn → List (List ℕ)
words_from (Add rd rs1 rs2) = codes "add" ∷ registers_words rd rs1 rs2
words_from (Sub rd rs1 rs2) = codes "sub" ∷ registers_words rd rs1 rs2
words_from (Sll rd rs1 rs2) = codes "sll" ∷ registers_words rd rs1 rs2
words_from (Slt rd rs1 rs2) = codes "slt" ∷ registers_words rd rs1 rs2
words_from (Sltu rd rs1 rs2) = codes "sltu" ∷ registers_words rd rs1 rs2
words_from (Xor rd rs1 rs2) = codes "xor" ∷ registers_words rd rs1 rs2
words_from (Srl rd rs1 rs2) = codes "srl" ∷ registers_words rd rs1 rs2
words_from (Sra rd rs1 rs2) = codes "sra" ∷ registers_words rd rs1 rs2
words_from (Or rd rs1 rs2) = codes "or" ∷ registers_words rd rs1 rs2
words_from (And rd rs1 rs2) = codes "and" ∷ registers_words rd rs1 rs2
words_from (Addi rd rs1 imm) = codes "addi" ∷ number_words rd rs1 imm
words_from (Slti rd rs1 imm) = codes "slti" ∷ number_words rd rs1 imm
words_from (Sltiu rd rs1 imm) = codes "sltiu" ∷ number_words rd rs1 imm
words_from (Xori rd rs1 imm) = codes "xori" ∷ number_words rd rs1 imm
words_from (Ori rd rs1 imm) = codes "ori" ∷ number_words rd rs1 imm
words_from (Andi rd rs1 imm) = codes "andi" ∷ number_words rd rs1 imm
words_from (Slli rd rs1 sh) = codes "slli" ∷ shift_words rd rs1 sh
words_from (Srli rd rs1 sh) = codes "srli" ∷ shift_words rd rs1 sh
words_from (Srai rd rs1 sh) = codes "srai" ∷ shift_words rd rs1 sh
words_from (Lb rd rs1 imm) = codes "lb" ∷ address_words rd imm rs1
words_from (Lh rd rs1 imm) = codes "lh" ∷ address_words rd imm rs1
words_from (Lw rd rs1 imm) = codes "lw" ∷ address_words rd imm rs1
words_from (Lbu rd rs1 imm) = codes "lbu" ∷ address_words rd imm rs1
words_from (Lhu rd rs1 imm) = codes "lhu" ∷ address_words rd imm rs1
words_from (Jalr rd rs1 imm) = codes "jalr" ∷ address_words rd imm rs1
words_from (Sb rs1 rs2 imm) = codes "sb" ∷ address_words rs2 imm rs1
words_from (Sh rs1 rs2 imm) = codes "sh" ∷ address_words rs2 imm rs1
words_from (Sw rs1 rs2 imm) = codes "sw" ∷ address_words rs2 imm rs1
words_from (Beq rs1 rs2 off) = codes "beq" ∷ number_words rs1 rs2 off
words_from (Bne rs1 rs2 off) = codes "bne" ∷ number_words rs1 rs2 off
words_from (Blt rs1 rs2 off) = codes "blt" ∷ number_words rs1 rs2 off
words_from (Bge rs1 rs2 off) = codes "bge" ∷ number_words rs1 rs2 off
words_from (Bltu rs1 rs2 off) = codes "bltu" ∷ number_words rs1 rs2 off
words_from (Bgeu rs1 rs2 off) = codes "bgeu" ∷ number_words rs1 rs2 off
words_from (Jal rd off) = codes "jal" ∷ jump_words rd off
words_from (Lui rd imm) = codes "lui" ∷ upper_words rd imm
words_from (Auipc rd imm) = codes "auipc" ∷ upper_words rd imm
words_from Fence = codes "fence" ∷ []
words_from Ecall = codes "ecall" ∷ []
words_from Ebreak = codes "ebreak" ∷ []

-- the text of an instruction: its words with one space between them
unfoldable pub text_of : Insn → List ℕ
text_of insn = join_with_byte 32 (words_from insn)
