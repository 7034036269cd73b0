-- The choices that an answer tells, with their steps counted. (Own.)
use Rattle.std.specs.Prelude.{ℕ, List, [], ◌++◌, Option, Some, None}
use Rattle.machine_state.specs.State.{State}
use Rattle.breadth_first.specs.declared.answer.Explored.{Explored}
use Rattle.breadth_first.specs.declared.answer.Explored.TheVariants.{Found, Closed, Open}
use Rattle.breadth_first.specs.declared.answer.Missed.{Missed}
use Rattle.breadth_first.specs.declared.answer.Missed.TheVariants.{Lost, Avoided}
use Rattle.questions.specs.declared.choice.Choice.{Choice}
use Rattle.questions.specs.Choice.{counted_path}
use Rattle.questions.specs.Question.{QuestionValue, choices_of, watch_for}

-- the choices that show what doesn't come, where something doesn't: they lead to a state that can't come to it, or to one of a
-- cycle that avoids it, and behind those stand the cycle's
abbrev pub missed_path : Option Missed → List ℕ
missed_path None = []
missed_path (Some (Lost lost)) = lost.path.items
missed_path (Some (Avoided avoided)) = avoided.path.items ++ avoided.cycle.items

-- the choices that an answer tells, each by its number: those that lead to the state that was found, or show what doesn't come
abbrev pub told_path : Explored → List ℕ
told_path (Found n path) = path.items
told_path (Closed size counts missed) = missed_path missed
told_path (Open size counts) = []

-- the same choices with their steps counted, from this state on
abbrev pub shown_of : QuestionValue → State → Explored → List Choice
shown_of question s answer = counted_path (watch_for question.properties) (choices_of question) s (told_path answer)
