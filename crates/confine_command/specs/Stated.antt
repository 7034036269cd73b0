-- The cut that lines state: the sides of the objects behind all of them, or the first line that is refused (this project's
-- own).
use Rattle.std.specs.Prelude.{◌≡◌, ℕ, ◌+◌, List, [], ◌∷◌, Option, Result, Ok, Err}
use Rattle.coy_io.specs.Lines.{Part, Line, LongLine, PastLimit}
use Rattle.coy_io.specs.Reader.{Reader}
use Rattle.confinement.specs.Cut.{Sides}
use Rattle.confine_check.specs.CutLine.{after_line, cut_line, refusal}
use Rattle.confine_check.specs.declared.block.Block.{Block}
use Rattle.listing_read.specs.declared.object_fault.CutFault.{CutFault}
use Rattle.listing_read.specs.declared.object_fault.CutFault.TheVariants.{LineTooLong}
use Rattle.judged_lines.specs.declared.stop.Stop.{Stop}
use Rattle.courses.specs.Stopped.{MakesRest}

-- what lines state: these sides, or nothing, since a line is refused or the input goes on behind the last byte that is read
pub data Stated : Type 0 where
  StatesSides : (sides : Sides) → Stated
  RefusedAt : (line : ℕ) (fault : CutFault) → Stated
  PastEnd : Stated

-- what a line states, line `n`, where the lines behind it state this
abbrev pub stated_with : ℕ → Result (Option Block) CutFault → Stated → Stated
stated_with n (Ok block) behind = behind
stated_with n (Err fault) behind = RefusedAt n fault

-- what the lines behind line `n` state, where those before gave these sides
unfoldable pub stated : Sides → ℕ → List Part → Stated
stated sides n [] = StatesSides sides
stated sides n (LongLine ∷ parts) = RefusedAt (n + 1) LineTooLong
stated sides n (PastLimit ∷ parts) = PastEnd
stated sides n (Line line ∷ parts) =
    stated_with (n + 1) (cut_line sides line) (stated (after_line sides (cut_line sides line)) (n + 1) parts)

-- how a line is judged by itself: whether it is refused, and the sides after it
abbrev pub JudgesCut : Sides → List ℕ → Result (Unit {0}) CutFault → Sides → Type 0
JudgesCut sides line answer sides' = (answer ≡ refusal (cut_line sides line)) × (sides' ≡ after_line sides (cut_line sides line))

-- ---- lines as they are read

-- what reading all lines came to, up to where they end
abbrev pub StatesRest : Sides → Sides → Reader → Reader → Option (List ℕ) → Option (List ℕ) → Stop CutFault → Type 0
StatesRest sides sides' old new held held' stop =
    MakesRest (stated sides old.number) (StatesSides sides') RefusedAt PastEnd old new held held' stop
