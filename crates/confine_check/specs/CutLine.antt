-- A line of a cut: which objects it puts on the left, or its first fault. (Own.)
use Rattle.std.specs.Prelude.{ℕ, ◌==◌, ◌||◌, nat_le, if◌then◌else◌, List, length, bytes_eq, codes, Option, Some, None, Result, Ok, Err}
use Rattle.coy_io.specs.Limits.{line_limit}
use Rattle.coy_text.specs.Line.{is_visible_line, is_skipped}
use Rattle.coy_text.specs.Words.{words_of, field}
use Rattle.listing_read.specs.Faults.{◌>>=◌, ensured}
use Rattle.confinement.specs.Cut.{Sides, sides_of}
use Rattle.confine_check.specs.declared.block.Block.{Block}
use Rattle.listing_read.specs.declared.object_fault.CutFault.{CutFault}
use Rattle.listing_read.specs.declared.object_fault.CutFault.TheVariants.{LineTooLong, BadByte, UnknownCut, WrongWords}
use Rattle.listing_read.specs.declared.object_fault.FieldFault.{FieldFault}
use Rattle.listing_read.specs.ObjectFaults.{cut_fault}
use Rattle.confine_check.specs.Fields.{kind_of, named_block}
use Rattle.confine_check.specs.Sides.{with_left}

-- what fields say, or their fault as one of the line
abbrev pub as_cut : {A : Type 0} → Result A FieldFault → Result A CutFault
as_cut (Ok said) = Ok said
as_cut (Err fault) = Err (cut_fault fault)

-- `left KIND N` or `left KIND N M`
unfoldable pub left_line : Sides → List (List ℕ) → Result Block CutFault
left_line sides words = do
  _ ← ensured (length words == 3 || length words == 4) WrongWords
  kind ← as_cut (kind_of (field words 1))
  as_cut (named_block kind (length (sides_of sides kind)) 2 words)

-- a line by its first word
unfoldable pub block_line : Sides → List (List ℕ) → Result Block CutFault
block_line sides words = if bytes_eq (field words 0) (codes "left") then left_line sides words else Err UnknownCut

-- a line that is not skipped
unfoldable pub asked_by : Sides → List (List ℕ) → Result (Option Block) CutFault
asked_by sides words = do
  block ← block_line sides words
  Ok (Some block)

-- a line by its words
abbrev pub cut_words : Sides → List (List ℕ) → Result (Option Block) CutFault
cut_words sides words = if is_skipped words then Ok None else asked_by sides words

-- what a line puts on the left, which is nothing where it is skipped
unfoldable pub cut_line : Sides → List ℕ → Result (Option Block) CutFault
cut_line sides line = do
  _ ← ensured (nat_le (length line) line_limit) LineTooLong
  _ ← ensured (is_visible_line line) BadByte
  cut_words sides (words_of line)

-- the sides after a line, as before where it is refused
abbrev pub after_line : Sides → Result (Option Block) CutFault → Sides
after_line sides (Ok (Some block)) = with_left sides block
after_line sides (Ok None) = sides
after_line sides (Err fault) = sides

-- whether a line is refused, and with what
abbrev pub refusal : Result (Option Block) CutFault → Result (Unit {0}) CutFault
refusal (Ok block) = Ok tt
refusal (Err fault) = Err fault
