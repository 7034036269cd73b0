-- Words that are kept with their instructions.
use Rattle.std.specs.Prelude.{◌≡◌, Some}
use Rattle.rv32_decode.specs.InRange.{InRange}
use Rattle.rv32_decode.specs.Table.{insn_at}
use Rattle.decoded_words.specs.declared.entry.Entry.{Entry}

-- the instruction is the one that the table of RV32I has for the word
pub record IsDecoded (entry : Entry) : Type 0 where
  pub is : insn_at entry.word ≡ Some entry.insn
  pub range : InRange entry.insn
