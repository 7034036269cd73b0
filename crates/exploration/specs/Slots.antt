-- How many slots of GPTs an exploration reads at most. (Own.)
use Rattle.std.specs.Prelude.{◌≡◌, ℕ, ◌+◌, if◌then◌else◌, Bool, List, Option, Some, None, IfSome, Result, Ok, Err, ⊤}
use Rattle.std.specs.List.{list_any}
use Rattle.machine_state.specs.State.{State}
use Rattle.separation_policy.specs.Policy.{PolicyValue}
use Rattle.breadth_first.specs.System.{IsEquality}
use Rattle.breadth_first.specs.Spending.{SpendsAtMost, SpendsFor}
use Rattle.breadth_first.specs.declared.answer.Explored.{Explored}
use Rattle.questions.specs.Question.{QuestionValue, choices_of, is_about_policy, is_count, watch_for}
use Rattle.questions.specs.Asking.{asking}
use Rattle.state_choices.specs.Slots.{all_slots, path_slots}
use Rattle.exploration.specs.Explored.{limits_of, system_of, wants_of}
use Rattle.exploration.specs.Laws.{IsAnswerTo}
use Rattle.exploration.specs.Shown.{told_path}
use Rattle.exploration.specs.declared.machine_space.exploring.Answered.{Answered}

-- before a search from this state on: to see whether the policy holds, if anything that is asked is about it, for the tables of
-- states, and for the key of the start
abbrev pub starting_slots : QuestionValue → State → ℕ
starting_slots question s = (if list_any is_about_policy question.properties then all_slots s else 0) + (all_slots s + all_slots s)

-- behind it: to go back to the start, and by the events of the choices that are told, of which the steps are counted
abbrev pub telling_slots : QuestionValue → State → List ℕ → ℕ
telling_slots question s path = all_slots s + path_slots (watch_for question.properties) (choices_of question) s path

-- by the answer to which the search came, if it came to one
abbrev pub told_slots : QuestionValue → State → Option Explored → ℕ
told_slots question s None = 0
told_slots question s (Some answer) = telling_slots question s (told_path answer)

-- the answer of a call, if there was memory for one
abbrev pub explored_in : {E : Type 0} → Result Answered E → Option Explored
explored_in (Ok answered) = Some answered.explored
explored_in (Err fault) = None

-- the same as the result of a search
abbrev pub search_result : Option Explored → Result Explored ⊤
search_result None = Err tt
search_result (Some answer) = Ok answer

-- A search from this state on, in which states are compared by some equality of states, and behind it what is told of the answer:
-- no more slots were read than a search spends that keeps as many states, and tries the choices of as many, as the answer tells.
-- Where memory was wanting for an answer, it was so in the search, or behind it.
pub record SearchesFor (question : QuestionValue) (policy : PolicyValue) (s : State) (told : Option Explored) (begun fetches : ℕ) : Type 0 where
  pub same : State → State → Bool
  pub decides : IsEquality same
  pub ended : ℕ
  pub searches : SpendsFor (system_of question policy same s) (limits_of question) (wants_of question) (asking is_count question.properties) (search_result told) begun ended
  pub answer : Option Explored
  pub is : IfSome told (λ explored. answer ≡ Some explored)
  pub answers : IfSome answer (IsAnswerTo question policy s)
  pub tells : SpendsAtMost (told_slots question s answer) ended fetches

-- the same with what comes before the search
pub record ExploresFor (question : QuestionValue) (policy : PolicyValue) (s : State) (told : Option Explored) (before fetches : ℕ) : Type 0 where
  pub begun : ℕ
  pub starts : SpendsAtMost (starting_slots question s) before begun
  pub goes_on : SearchesFor question policy s told begun fetches
