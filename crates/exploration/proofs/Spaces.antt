-- A space whose tables grow stays the same space.
use Rattle.std.proofs.Common.{◌≡◌, ℕ, [], ◌∷◌, ◌<◌, inl, inr, Bool, List, length, get_or, All, sym, ap, ◌∙◌, subst}
use Rattle.std.proofs.lemmas.List.{get_or_default}
use Rattle.machine_state.specs.declared.event.Event.{Event}
use Rattle.machine_state.specs.State.{State}
use Rattle.kernel_core.specs.Event.{event_of}
use Rattle.kernel_core.specs.Run.{run_state}
use Rattle.kernel_core.proofs.Ran.{run_state-cons, run_state-nil}
use Rattle.quiet_runs.specs.Runs.{Watch}
use Rattle.quiet_finding.specs.Watched.{WatchedValue}
use Rattle.separation_policy.specs.Closure.{ClosureValue}
use Rattle.confinement.specs.Acts.{system_of as capabilities_of}
use Rattle.separation_policy.specs.Policy.{PolicyValue, PolicyHolds}
use Rattle.separation_policy.specs.Laws.{IntegrityLaw}
use Rattle.breadth_first.specs.declared.answer.Explored.{Explored}
use Rattle.breadth_first.specs.declared.answer.Limits.{Limits}
use Rattle.breadth_first.specs.declared.answer.Want.{Want}
use Rattle.breadth_first.specs.Marks.{goal_of}
use Rattle.breadth_first.specs.Answer.{IsAnswer}
use Rattle.breadth_first.specs.Kept.{Keeps}
use Rattle.questions.specs.declared.choice.Choice.{Choice}
use Rattle.questions.specs.declared.choice.Choice.TheVariants.{Tick as TimerTick}
use Rattle.questions.specs.declared.asks.Asks.{Asks}
use Rattle.questions.specs.Choice.{after_choice, choice_at}
use Rattle.questions.specs.Question.{PropertyValue, QuestionValue, IsIndifferent, choices_of, watch_for, is_count}
use Rattle.questions.specs.Asking.{asking}
use Rattle.exploration.specs.Explored.{limits_of, system_of, wants_by, wants_of}
use Rattle.exploration.specs.Laws.{IsAnswerTo}
use Rattle.questions.proofs.Numbers.{asking-there}
use Rattle.exploration.proofs.Wants.{wants-there}
use Rattle.state_parts.specs.declared.key.Key.{Key}
use Rattle.state_parts.specs.Key.{KeyValue}
use Rattle.state_parts.specs.KeyLaws.{key_in, key_decides}
use Rattle.state_parts.specs.Keys.{objects_of, values_of, Reads, store_by}
use Rattle.state_parts.specs.Same.{same_state}
use Rattle.state_parts.specs.SameLaws.{state_decides}
use Rattle.state_parts.specs.Standing.{nowhere}
use Rattle.state_parts.specs.Space.{TablesValue, Held, IsKept, state_in}
use Rattle.state_parts.specs.States.{GrowTables}
use Rattle.state_parts.proofs.Alike.{held_grown, keys_alike, state_grown}
use Rattle.exploration.specs.machine_space.Space.{IsHeld, IsSpace, searched_of}

module _ (question : QuestionValue) (policy : PolicyValue) (indifferent : Bool) where
  -- where tables grew, a key that was held is
  pub kept_held : (old new : TablesValue) (key : Key) → GrowTables old new → IsHeld question policy indifferent old key → IsHeld question policy indifferent new key
  kept_held old new key grows is = record {
    held = held_grown old new key grows is.held;
    is_known = λ known. subst (λ (s : State). IsIndifferent question policy s) (sym (state_grown old new key grows is.held)) (is.is_known known);
  }

  -- tables grew
  pub keeps_grown : (old new : TablesValue) (start : Key) → GrowTables old new → Held old start
      → Keeps (searched_of question policy (state_in old start)) (λ (key : Key). IsHeld question policy indifferent old key) (λ (key : Key). state_in old key)
      (searched_of question policy (state_in new start)) (λ (key : Key). IsHeld question policy indifferent new key) (λ (key : Key). state_in new key)
  keeps_grown old new start grows held = record {
    system = ap (system_of question policy same_state) (state_grown old new start grows held);
    still = λ key is. kept_held old new key grows is;
    stays = λ key is. state_grown old new key grows is.held;
  }

  -- and so does what it keeps
  pub space_grown : (closure : ClosureValue) (choices : List Choice) (watched : WatchedValue) (old new : TablesValue) (start : Key) → GrowTables old new → IsSpace question policy indifferent closure choices watched old start → IsSpace question policy indifferent closure choices watched new start
  space_grown closure choices watched old new start grows is =
      let kept = kept_held old new start grows (record { held = is.held; is_known = is.is_known }) in
      record {
        given = is.given;
        range = is.range;
        few = is.few;
        closes = is.closes;
        watches = is.watches;
        sizes = grows.sizes ∙ is.sizes;
        held = kept.held;
        is_known = kept.is_known;
      }

-- where a policy holds, it holds after any events
holds-run : IntegrityLaw → (policy : PolicyValue) (s : State) (es : List Event) → PolicyHolds policy (capabilities_of s) → PolicyHolds policy (capabilities_of (run_state s es))
holds-run law policy s [] holds = subst (λ (t : State). PolicyHolds policy (capabilities_of t)) (sym (run_state-nil s)) holds
holds-run law policy s (e ∷ es) holds =
    let first = law policy s holds [] e in
    let one = subst (λ (t : State). PolicyHolds policy (capabilities_of (event_of t e).state)) (run_state-nil s) first.holds in
    subst (λ (t : State). PolicyHolds policy (capabilities_of t)) (sym (run_state-cons s e es)) (holds-run law policy (event_of s e).state es one)

-- so where it makes no difference, it makes none after any events
pub indifferent-run : IntegrityLaw → (question : QuestionValue) (policy : PolicyValue) (s : State) (es : List Event) → IsIndifferent question policy s → IsIndifferent question policy (run_state s es)
indifferent-run law question policy s es (inl none) = inl none
indifferent-run law question policy s es (inr holds) = inr (holds-run law policy s es holds)

-- a copy of a key stands for the same state
module _ (t : TablesValue) (a b : Key) (same : key_in b ≡ key_in a) (held : Held t a) where
  pub held_copy : Held t b
  held_copy = record {
    tables = held.tables;
    reads = subst (λ (k : KeyValue). Reads t.objects k.parts (objects_of t.names (store_by t.sizes t.names (values_of t.objects k.parts)))) (sym same) held.reads;
    standing = subst (λ (k : KeyValue). k.standing < length t.standings) (sym same) held.standing;
    kept = subst (λ (k : KeyValue). IsKept t.sizes (store_by t.sizes t.names (values_of t.objects k.parts)) (get_or t.standings k.standing nowhere)) (sym same) held.kept;
  }

  pub state_copy : state_in t b ≡ state_in t a
  state_copy = (state_decides (state_in t b) (state_in t a)).0 (sym (keys_alike t b a held_copy held) ∙ (key_decides (key_in b) (key_in a)).1 same)

  -- to which the policy makes no difference, if that is known
  pub copy_held : (question : QuestionValue) (policy : PolicyValue) (indifferent : Bool) → IsHeld question policy indifferent t a → IsHeld question policy indifferent t b
  copy_held question policy indifferent is = record {
    held = held_copy;
    is_known = λ known. subst (λ (s : State). IsIndifferent question policy s) (sym state_copy) (is.is_known known);
  }

-- a choice of the question by its number, where what is watched is what the question looks at
pub next-means : (question : QuestionValue) (watch : Watch) (choices : List Choice) (n : ℕ) (choice d : Choice) (s t : State) → watch ≡ watch_for question.properties → choices ≡ choices_of question → n < length choices
    → choice ≡ get_or choices n d → t ≡ after_choice watch s choice → t ≡ after_choice (watch_for question.properties) s (choice_at (choices_of question) n)
next-means question watch choices n choice d s t watches given within is led =
    led ∙ ap (λ (w : Watch). after_choice w s choice) watches
    ∙ ap (after_choice (watch_for question.properties) s) (is ∙ get_or_default choices n d (TimerTick 0) within ∙ ap (λ (cs : List Choice). choice_at cs n) given)

-- ---- what is asked

-- the properties that ask something are there
pub asked-there : (asks : Asks → Bool) (qs properties : List PropertyValue) (numbers : List ℕ) → numbers ≡ asking asks qs → qs ≡ properties → All (λ n. n < length properties) numbers
asked-there asks qs properties numbers are same =
    subst (λ (ps : List PropertyValue). All (λ n. n < length ps) numbers) same
    (subst (λ (ns : List ℕ). All (λ n. n < length qs) ns) (sym are) (asking-there asks qs))

-- and so are those that want something
pub wanted-there : (qs properties : List PropertyValue) (wants : List Want) → wants ≡ wants_by qs → qs ≡ properties → All (λ want. goal_of want < length properties) wants
wanted-there qs properties wants are same =
    subst (λ (ps : List PropertyValue). All (λ want. goal_of want < length ps) wants) same
    (subst (λ (ws : List Want). All (λ want. goal_of want < length qs) ws) (sym are) (wants-there qs))

-- an answer of the search is one to the question, from the state that the start means
pub answered : (question : QuestionValue) (policy : PolicyValue) (s t : State) (limits : Limits) (wants : List Want) (counts : List ℕ) (answer : Explored) → s ≡ t → limits ≡ limits_of question → wants ≡ wants_of question → counts ≡ asking is_count question.properties → IsAnswer (searched_of question policy s) limits wants counts answer → IsAnswerTo question policy t answer
answered question policy s t limits wants counts answer here far first second is = record {
  same = same_state;
  decides = state_decides;
  searched =
      subst (λ (x : State). IsAnswer (searched_of question policy x) (limits_of question) (wants_of question) (asking is_count question.properties) answer) here
      (subst (λ (l : Limits). IsAnswer (searched_of question policy s) l (wants_of question) (asking is_count question.properties) answer) far
      (subst (λ (ws : List Want). IsAnswer (searched_of question policy s) limits ws (asking is_count question.properties) answer) first
      (subst (λ (ns : List ℕ). IsAnswer (searched_of question policy s) limits wants ns answer) second is)));
}
