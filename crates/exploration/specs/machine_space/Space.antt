-- What a space of a machine's states keeps. (Own.)
use Rattle.std.specs.Prelude.{◌≡◌, ℕ, ◌<◌, ◌^◌, Bool, List, length, IsTrue, Result}
use Rattle.std.specs.List.{All}
use Rattle.machine_state.specs.State.{State}
use Rattle.separation_policy.specs.Policy.{PolicyValue}
use Rattle.separation_policy.specs.Closure.{ClosureValue, IsClosure}
use Rattle.breadth_first.specs.System.{System}
use Rattle.breadth_first.specs.Spending.{SpendsFor}
use Rattle.breadth_first.specs.declared.answer.Explored.{Explored}
use Rattle.quiet_finding.specs.Watched.{WatchedValue, watch_of}
use Rattle.questions.specs.declared.choice.Choice.{Choice}
use Rattle.questions.specs.Choice.{IsChoiceOf}
use Rattle.questions.specs.Question.{QuestionValue, IsIndifferent, choices_of, is_count, watch_for}
use Rattle.questions.specs.Asking.{asking}
use Rattle.exploration.specs.Explored.{limits_of, system_of, wants_of}
use Rattle.state_parts.specs.declared.key.Key.{Key}
use Rattle.state_parts.specs.Same.{same_state}
use Rattle.state_parts.specs.Space.{TablesValue, Held, state_in}
use Rattle.state_parts.specs.States.{StatesValue}

-- a key stands for a state, to which the policy makes no difference if that is known (`indifferent`)
pub record IsHeld (question : QuestionValue) (policy : PolicyValue) (indifferent : Bool) (tables : TablesValue) (key : Key) : Type 0 where
  pub held : Held tables key
  pub is_known : IsTrue indifferent → IsIndifferent question policy (state_in tables key)

-- a space: what is asked, whether the policy is known to make no difference, the states that were seen with the machine, and
-- the state from which the choices start
pub record SpaceValue : Type 0 where
  pub question : QuestionValue
  pub policy : PolicyValue
  pub indifferent : Bool
  pub states : StatesValue
  pub start : State

-- what is searched: the states from this one on
abbrev pub searched_of : QuestionValue → PolicyValue → State → System State
searched_of question policy start = system_of question policy same_state start

-- a search of them spends no more than these states and choices do
abbrev pub SearchSpends : {E : Type 0} → QuestionValue → PolicyValue → State → Result Explored E → ℕ → ℕ → Type 0
SearchSpends question policy s result before after =
    SpendsFor (searched_of question policy s) (limits_of question) (wants_of question) (asking is_count question.properties) result before after

-- the choices are the question's, and few enough to have numbers; the closure is the policy's; what is watched is what the
-- question looks at; tables are those of a machine that the question is about, and the start is a state in them, to which the
-- policy makes no difference if that is known
pub record IsSpace (question : QuestionValue) (policy : PolicyValue) (indifferent : Bool) (closure : ClosureValue) (choices : List Choice) (watched : WatchedValue) (tables : TablesValue) (start : Key) : Type 0 where
  pub given : choices ≡ choices_of question
  pub range : All (IsChoiceOf question.sizes.harts) choices
  pub few : length choices < 2 ^ 32
  pub closes : IsClosure policy closure
  pub watches : watch_of watched ≡ watch_for question.properties
  pub sizes : tables.sizes ≡ question.sizes
  pub held : Held tables start
  pub is_known : IsTrue indifferent → IsIndifferent question policy (state_in tables start)
