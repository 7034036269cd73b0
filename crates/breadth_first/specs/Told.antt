-- What is told of an answer.
use Rattle.std.specs.Prelude.{ℕ, List, Option, None, Some}
use Rattle.breadth_first.specs.declared.answer.Size.{Size}
use Rattle.breadth_first.specs.declared.answer.Count.{Count}
use Rattle.breadth_first.specs.declared.answer.Missed.{Missed}
use Rattle.breadth_first.specs.declared.answer.Missed.TheVariants.{Lost, Avoided}
use Rattle.breadth_first.specs.declared.answer.Explored.{Explored}
use Rattle.breadth_first.specs.declared.answer.Explored.TheVariants.{Found, Closed, Open}

-- how a want is missed: which of them, and the choices that lead to the state from which nothing leads to one that passes its
-- test, or to the cycle that avoids it. Which cycle is told is left open
pub data MissedTold : Type 0 where
  TellsLost : (want : ℕ) (path : List ℕ) → MissedTold
  TellsAvoided : (want : ℕ) (path : List ℕ) → MissedTold

-- an answer by its numbers and lists
pub data Told : Type 0 where
  TellsFound : (property : ℕ) (path : List ℕ) → Told
  TellsClosed : (size : Size) (counts : List Count) (missed : Option MissedTold) → Told
  TellsOpen : (size : Size) (counts : List Count) → Told

-- what is told of a want that is missed
abbrev pub want_told : Missed → MissedTold
want_told (Lost lost) = TellsLost lost.want lost.path.items
want_told (Avoided avoided) = TellsAvoided avoided.want avoided.path.items

-- or that none is
abbrev pub missed_told : Option Missed → Option MissedTold
missed_told None = None
missed_told (Some missed) = Some (want_told missed)

-- what is told of an answer
abbrev pub told : Explored → Told
told (Found property path) = TellsFound property path.items
told (Closed size counts missed) = TellsClosed size counts.items (missed_told missed)
told (Open size counts) = TellsOpen size counts.items
