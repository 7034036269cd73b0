-- What is kept stays right.
use Rattle.std.proofs.Common.{◌≡◌, ℕ, List, replicate, Some, slice_set}
use Rattle.std.specs.List.{All}
use Rattle.std.proofs.lemmas.List.Elements.{All-set, All-replicate}
use Rattle.rv32_decode.specs.InRange.{InRange}
use Rattle.rv32_decode.specs.Table.{insn_at}
use Rattle.rv32_decode.specs.Word.{word_of}
use Rattle.rv32_decode.specs.declared.insn.Insn.{Insn}
use Rattle.rv32_decode.specs.declared.insn.Insn.TheVariants.{Ecall}
use Rattle.rv32_decode.proofs.RoundTrip.{reads_back}
use Rattle.decoded_words.specs.Entry.{IsDecoded}
use Rattle.decoded_words.specs.declared.entry.Entry.{Entry}

-- the word of ECALL with its instruction
abbrev ecall : Entry
ecall = record { word = 115; insn = Ecall }

-- at the start each place has ECALL
pub kept-start : (places : ℕ) → All IsDecoded (replicate places ecall)
unfolding word_of
kept-start places = All-replicate IsDecoded places ecall (record { is = reads_back Ecall tt; range = tt })

-- a word and its instruction come to a place
pub kept-set : (entries : List Entry) (place word : ℕ) (insn : Insn) → insn_at word ≡ Some insn → InRange insn → All IsDecoded entries
    → All IsDecoded (slice_set entries place (record { word = word; insn = insn }))
kept-set entries place word insn is range kept =
    All-set IsDecoded entries place (record { word = word; insn = insn }) (record { is = is; range = range }) kept
