-- What the words of an assembler line say: an instruction, or why they say none.
use Rattle.std.specs.Prelude.{ℕ, List, Option, Some, None, ok_or, Result, Ok, Err}
use Rattle.rv32_decode.specs.declared.insn.Insn.{Insn}
use Rattle.rv32_decode.specs.Word.{word_of}
use Rattle.coy_text.specs.Words.{field}
use Rattle.rv32_asm.specs.Forms.{Form, form_of, line_of}
use Rattle.rv32_asm.specs.declared.assembly.AsmFault.{AsmFault}
use Rattle.rv32_asm.specs.declared.assembly.AsmFault.TheVariants.{BadMnemonic, BadOperand}

-- a line of a form that its first word names, or of none
abbrev pub insn_by : Option Form → List (List ℕ) → Result Insn AsmFault
insn_by None words = Err BadMnemonic
insn_by (Some form) words = ok_or (line_of form words) BadOperand

-- the instruction of a line's words
unfoldable pub insn_of : List (List ℕ) → Result Insn AsmFault
insn_of words = insn_by (form_of (field words 0)) words

-- the word of an instruction, where there is one
abbrev pub coded : Result Insn AsmFault → Result ℕ AsmFault
coded (Ok insn) = Ok (word_of insn)
coded (Err fault) = Err fault
