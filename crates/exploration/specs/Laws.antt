-- The theorem of explorations: what the answer of a search says of the machine. (Own.)
use Rattle.std.specs.Prelude.{◌≡◌, ◌<◌, Bool, List, [], flat_map}
use Rattle.std.specs.List.{All}
use Rattle.machine_state.specs.declared.event.Event.{Event}
use Rattle.machine_state.specs.Machine.{hart_in}
use Rattle.machine_state.specs.State.{State}
use Rattle.kernel_core.specs.Run.{run_state}
use Rattle.separation_policy.specs.Policy.{PolicyValue}
use Rattle.breadth_first.specs.System.{IsEquality}
use Rattle.breadth_first.specs.Answer.{IsAnswer}
use Rattle.breadth_first.specs.Told.{told}
use Rattle.breadth_first.specs.declared.answer.Explored.{Explored}
use Rattle.questions.specs.Choice.{counted_events}
use Rattle.questions.specs.Question.{QuestionValue, is_count}
use Rattle.questions.specs.Asking.{asking}
use Rattle.exploration.specs.Explored.{IsExact, IsSafe, NoneFails, Says, come_to, limits_of, system_of, wants_of}
use Rattle.exploration.specs.Shown.{shown_of, told_path}

-- an answer of a search for a question, from a state on, in which states are compared by some equality of states
pub record IsAnswerTo (question : QuestionValue) (policy : PolicyValue) (s : State) (answer : Explored) : Type 0 where
  pub same : State → State → Bool
  pub decides : IsEquality same
  pub searched : IsAnswer (system_of question policy same s) (limits_of question) (wants_of question) (asking is_count question.properties) answer

-- Never, ever, must, found, lost and avoided: what is told is so.
abbrev pub SaysLaw : Type 0
SaysLaw = (question : QuestionValue) (policy : PolicyValue) (s : State) (answer : Explored)
    → IsAnswerTo question policy s answer → Says question policy s answer

-- Exactly: yes is told where the question's answer is yes, and nowhere else, unless a limit ended the search.
abbrev pub ExactLaw : Type 0
ExactLaw = (question : QuestionValue) (policy : PolicyValue) (s : State) (answer : Explored)
    → IsAnswerTo question policy s answer → IsExact question policy s answer

-- One answer: whatever is told of a question is the same, by whichever search, but for the cycle by which a `must` is avoided.
abbrev pub OneAnswerLaw : Type 0
OneAnswerLaw = (question : QuestionValue) (policy : PolicyValue) (s : State) (a b : Explored)
    → IsAnswerTo question policy s a → IsAnswerTo question policy s b → told a ≡ told b

-- Where no choices are stated, what holds behind all lists of choices holds behind all lists of events of harts that there are.
abbrev pub EveryEventLaw : Type 0
EveryEventLaw = (question : QuestionValue) (policy : PolicyValue) (s : State) → question.choices ≡ [] → NoneFails question policy s
    → (es : List Event) → All (λ e. hart_in e < question.sizes.harts) es → IsSafe question policy (run_state s es)

-- Shown: the events of the choices that an answer tells lead to the state that it tells.
abbrev pub ShownLaw : Type 0
ShownLaw = (question : QuestionValue) (policy : PolicyValue) (s : State) (answer : Explored)
    → run_state s (flat_map counted_events (shown_of question s answer)) ≡ come_to question policy s (told_path answer)
