-- The instruction table by opcode, funct3 and funct7, of which the functions for one opcode each speak. It says what
-- the table by masks says, so no caller needs it.
use Rattle.std.specs.Prelude.{ℕ, Option, Some, None, List, [], ◌∷◌, Bool, true, false, if◌then◌else◌, ◌==◌, ◌&&◌}
use Rattle.rv32_decode.specs.Fields.{bits}
use Rattle.rv32_decode.specs.Table.{Row, rows, made}
use Rattle.rv32_decode.specs.declared.insn.Insn.{Insn}

-- the row's word has this opcode, and where the row asks for them this funct3 and funct7, or it is this word
abbrev pub has_fields : Row → ℕ → ℕ → ℕ → ℕ → Bool
has_fields row opcode funct3 funct7 word =
    if opcode == bits row.match 6 0 then (
    if row.mask == 0x7f then true else (
    if row.mask == 0x707f then funct3 == bits row.match 14 12 else (
    if row.mask == 0xfe00707f then (funct7 == bits row.match 31 25) && (funct3 == bits row.match 14 12) else
    word == row.match)))
    else false

-- the instruction of the row that has these fields
abbrev pub found_by : List Row → ℕ → ℕ → ℕ → ℕ → Option Insn
found_by [] opcode funct3 funct7 word = None
found_by (row ∷ rest) opcode funct3 funct7 word =
    if has_fields row opcode funct3 funct7 word then Some (made row.form word) else found_by rest opcode funct3 funct7 word

-- the instruction of a word whose fields are given
unfoldable pub insn_by : ℕ → ℕ → ℕ → ℕ → Option Insn
insn_by opcode funct3 funct7 word = found_by rows opcode funct3 funct7 word
