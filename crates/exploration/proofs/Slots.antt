-- How many slots an exploration reads, part by part.
use Rattle.std.proofs.Common.{◌≡◌, ◌∙◌, ℕ, ◌+◌, ◌*◌, ◌<◌, ◌≤◌, Bool, true, false, if◌then◌else◌, List, length, get_or, sum_by, Option, None, Some, IfSome, Result, Ok, Err, refl, sym, ap, subst, arith, true≢false}
use Rattle.std.specs.List.{list_any}
use Rattle.std.specs.Result.{IsErr}
use Rattle.std.proofs.lemmas.List.{get_or_default}
use Rattle.std.proofs.lemmas.List.Sums.{get_or-le-sum_by, sum_by-le-sum_by}
use Rattle.machine_state.specs.State.{State}
use Rattle.quiet_runs.specs.Runs.{Watch}
use Rattle.separation_policy.specs.Policy.{PolicyValue}
use Rattle.breadth_first.specs.System.{System}
use Rattle.breadth_first.specs.Spending.{SpendsAtMost, SpendsFor}
use Rattle.breadth_first.specs.declared.answer.Explored.{Explored}
use Rattle.breadth_first.specs.declared.answer.Limits.{Limits}
use Rattle.breadth_first.specs.declared.answer.Want.{Want}
use Rattle.questions.specs.declared.choice.Choice.{Choice}
use Rattle.questions.specs.declared.choice.Choice.TheVariants.{Tick as TimerTick}
use Rattle.questions.specs.Choice.{choice_at}
use Rattle.questions.specs.Question.{PropertyValue, QuestionValue, atoms_in, choices_of, count_atoms, is_about_policy, is_count, watch_for}
use Rattle.questions.specs.Asking.{asking}
use Rattle.state_parts.specs.declared.key.Key.{Key}
use Rattle.state_parts.specs.Same.{same_state}
use Rattle.state_parts.specs.SameLaws.{state_decides}
use Rattle.state_parts.specs.Space.{TablesValue, Held, state_in}
use Rattle.state_choices.specs.Slots.{all_slots, choice_slots, path_slots}
use Rattle.state_choices.proofs.Slots.{all_slots-held}
use Rattle.exploration.specs.Explored.{limits_of, look_slots, wants_of}
use Rattle.exploration.specs.Laws.{IsAnswerTo}
use Rattle.exploration.specs.Shown.{told_path}
use Rattle.exploration.specs.Slots.{ExploresFor, SearchesFor, explored_in, search_result, starting_slots, telling_slots}
use Rattle.exploration.specs.declared.machine_space.exploring.Answered.{Answered}
use Rattle.exploration.specs.machine_space.Space.{SearchSpends, searched_of}

-- nothing is no more than anything
pub spends-none : (most n : ℕ) → SpendsAtMost most n n
spends-none most n = record { grows = omega arith; few = omega arith }

-- ---- looks at a state

-- the atoms of a property are no more than those of all
abbrev atoms : PropertyValue → ℕ
atoms property = atoms_in property + count_atoms property.first

pub atoms-holding : (properties : List PropertyValue) (n : ℕ) (d : PropertyValue) → n < length properties → atoms_in (get_or properties n d) ≤ sum_by atoms properties
atoms-holding properties n d within = let one = get_or-le-sum_by atoms properties n d within in omega (arith, one)

pub atoms-beginning : (properties : List PropertyValue) (n : ℕ) (d : PropertyValue) → n < length properties → count_atoms (get_or properties n d).first ≤ sum_by atoms properties
atoms-beginning properties n d within = let one = get_or-le-sum_by atoms properties n d within in omega (arith, one)

pub atoms-all : (properties : List PropertyValue) → sum_by atoms_in properties ≤ sum_by atoms properties
atoms-all properties = sum_by-le-sum_by atoms_in atoms properties (λ property. omega arith)

module _ (question : QuestionValue) (t : TablesValue) (start : Key) (held : Held t start) where
  -- to go there
  pub look-gone : {before after : ℕ} → before ≤ after → after ≤ before + 16 * t.sizes.gpts → SpendsAtMost (look_slots question (state_in t start)) before after
  look-gone least most =
      let all = all_slots-held t start held in
      record { grows = least; few = omega (arith, most, all) }

  -- to see what is asked of one, by so many atoms
  pub look-judged : (gpts asked : ℕ) {before after : ℕ} → gpts ≡ t.sizes.gpts → asked ≤ sum_by atoms question.properties → before ≤ after → after ≤ before + 16 * gpts + 16 * asked
      → SpendsAtMost (look_slots question (state_in t start)) before after
  look-judged gpts asked same few least most =
      let all = all_slots-held t start held in
      record { grows = least; few = omega (arith, same, few, most, all) }

  -- and both
  pub look-asked : (gpts asked : ℕ) {before mid after : ℕ} → gpts ≡ t.sizes.gpts → asked ≤ sum_by atoms question.properties → before ≤ mid → mid ≤ before + 16 * t.sizes.gpts
      → mid ≤ after → after ≤ mid + 16 * gpts + 16 * asked → SpendsAtMost (look_slots question (state_in t start)) before after
  look-asked gpts asked same few first gone least most =
      let all = all_slots-held t start held in
      record { grows = omega (arith, first, least); few = omega (arith, same, few, gone, most, all) }

-- ---- choices

-- a choice of the question by its number, where what is watched is what the question looks at
cost-is : (question : QuestionValue) (watch : Watch) (choices : List Choice) (n : ℕ) (choice d : Choice) (s : State) → watch ≡ watch_for question.properties → choices ≡ choices_of question → n < length choices
    → choice ≡ get_or choices n d → choice_slots watch s choice ≡ choice_slots (watch_for question.properties) s (choice_at (choices_of question) n)
cost-is question watch choices n choice d s watches given within is =
    ap (λ (w : Watch). choice_slots w s choice) watches
    ∙ ap (choice_slots (watch_for question.properties) s) (is ∙ get_or_default choices n d (TimerTick 0) within ∙ ap (λ (cs : List Choice). choice_at cs n) given)

-- no more is read for it than it costs
pub choice-spent : (question : QuestionValue) (watch : Watch) (choices : List Choice) (n : ℕ) (choice d : Choice) (s : State) → watch ≡ watch_for question.properties → choices ≡ choices_of question → n < length choices
    → choice ≡ get_or choices n d → {before after : ℕ} → before ≤ after → after ≤ before + choice_slots watch s choice
    → SpendsAtMost (choice_slots (watch_for question.properties) s (choice_at (choices_of question) n)) before after
choice-spent question watch choices n choice d s watches given within is least most =
    let cost = cost-is question watch choices n choice d s watches given within is in
    record { grows = least; few = omega (arith, most, cost) }

-- nor for the events of choices than those cost from the state to which it went
pub path-same : (question : QuestionValue) (watch : Watch) (choices : List Choice) (s t : State) (path : List ℕ) → watch ≡ watch_for question.properties → choices ≡ choices_of question → t ≡ s
    → path_slots watch choices t path ≡ path_slots (watch_for question.properties) (choices_of question) s path
path-same question watch choices s t path watches given here =
    ap (λ (w : Watch). path_slots w choices t path) watches ∙ ap (λ (cs : List Choice). path_slots (watch_for question.properties) cs t path) given
    ∙ ap (λ (x : State). path_slots (watch_for question.properties) (choices_of question) x path) here

-- ---- before the search

-- whether the policy holds is looked at only where that is asked
asked-slots : (asked : Bool) (all : ℕ) {before after : ℕ} → (asked ≡ false → after ≡ before) → after ≤ before + all → after ≤ before + (if asked then all else 0)
asked-slots true all unasked most = most
asked-slots false all unasked most = let same = unasked refl in omega (arith, same)

-- and then the tables are made, and the key of the start
pub starting : (question : QuestionValue) (s : State) {before mid after : ℕ} → (list_any is_about_policy question.properties ≡ false → mid ≡ before) → before ≤ mid → mid ≤ before + all_slots s
    → mid ≤ after → after ≤ mid + all_slots s + all_slots s → SpendsAtMost (starting_slots question s) before after
starting question s unasked first asked least most =
    let few = asked-slots (list_any is_about_policy question.properties) (all_slots s) unasked asked in
    record { grows = omega (arith, first, least); few = omega (arith, few, most) }

-- ---- the search

module _ (g : System State) (limits : Limits) (wants : List Want) (counts : List ℕ) where
  -- one that failed told nothing
  pub spent-err : {E F : Type 0} (result : Result Explored E) (failed : Result Explored F) {before after : ℕ} → IsErr failed → SpendsFor g limits wants counts result before after → SpendsFor g limits wants counts failed before after
  spent-err result (Ok answer) is s = absurd (true≢false (sym is))
  spent-err result (Err fault) is s = record { kept = s.kept; parents = s.parents; size = tt; room = s.room; few = s.few; inside = s.inside; spends = s.spends }

  -- nor did one that didn't begin
  pub spent-none : {E : Type 0} (failed : Result Explored E) (n : ℕ) → IsErr failed → SpendsFor g limits wants counts failed n n
  spent-none (Ok answer) n is = absurd (true≢false (sym is))
  spent-none (Err fault) n is = record { kept = 0; parents = 0; size = tt; room = any limits.states; few = omega arith; inside = omega arith; spends = spends-none _ n }
    where
      any : (limit : Option ℕ) → IfSome limit (λ n. 0 ≤ n)
      any None = tt
      any (Some n) = omega arith

  -- with another fault
  pub spent-ok : {E F : Type 0} (answer : Explored) {before after : ℕ} → SpendsFor g {E = E} limits wants counts (Ok answer) before after → SpendsFor g {E = F} limits wants counts (Ok answer) before after
  spent-ok answer s = record { kept = s.kept; parents = s.parents; size = s.size; room = s.room; few = s.few; inside = s.inside; spends = s.spends }

-- by what is made of the question
pub spent-asked : {E : Type 0} (g : System State) (question : QuestionValue) (limits : Limits) (wants : List Want) (counts : List ℕ) (result : Result Explored E) (before after : ℕ)
    → limits ≡ limits_of question → wants ≡ wants_of question → counts ≡ asking is_count question.properties → SpendsFor g limits wants counts result before after
    → SpendsFor g (limits_of question) (wants_of question) (asking is_count question.properties) result before after
spent-asked g question limits wants counts result before after far first second s =
    subst (λ (l : Limits). SpendsFor g l (wants_of question) (asking is_count question.properties) result before after) far
    (subst (λ (ws : List Want). SpendsFor g limits ws (asking is_count question.properties) result before after) first
    (subst (λ (ns : List ℕ). SpendsFor g limits wants ns result before after) second s))

-- ---- the search and what is told

-- what was read for choices is no more than is read for those that are told
pub told-spent : {asked question : QuestionValue} {there s : State} {path : List ℕ} {before after : ℕ} → asked ≡ question → there ≡ s → (told : List ℕ) → path ≡ told → before ≤ after
    → after ≤ before + telling_slots asked there path → SpendsAtMost (telling_slots question s told) before after
told-spent {asked} {question} {there} {s} {path} {before} {after} same here told is least most = record {
  grows = least;
  few = subst (λ (q : QuestionValue). after ≤ before + telling_slots q s told) same
      (subst (λ (x : State). after ≤ before + telling_slots asked x told) here (subst (λ (p : List ℕ). after ≤ before + telling_slots asked there p) is most));
}

failed-none : {E : Type 0} (failed : Result Answered E) → IsErr failed → explored_in failed ≡ None
failed-none (Ok answered) is = absurd (true≢false (sym is))
failed-none (Err fault) is = refl

module _ (question : QuestionValue) (policy : PolicyValue) (s : State) where
  -- memory was wanting for the search, or for the path
  pub searches-failed : {E F : Type 0} (result : Result Explored E) (failed : Result Answered F) (before after : ℕ) → IsErr failed → SearchSpends question policy s result before after
      → SearchesFor question policy s (explored_in failed) before after
  searches-failed result failed before after is spent = subst (λ (told : Option Explored). SearchesFor question policy s told before after) (sym (failed-none failed is)) (record {
    same = same_state;
    decides = state_decides;
    ended = after;
    searches = spent-err (searched_of question policy s) _ _ _ result (search_result None) refl spent;
    answer = None;
    is = tt;
    answers = tt;
    tells = spends-none 0 after;
  })

  -- or before it
  pub searches-none : (n : ℕ) → SearchesFor question policy s None n n
  searches-none n = record {
    same = same_state;
    decides = state_decides;
    ended = n;
    searches = spent-none (searched_of question policy s) _ _ _ (search_result None) n refl;
    answer = None;
    is = tt;
    answers = tt;
    tells = spends-none 0 n;
  }

  pub explores-before : {E : Type 0} (failed : Result Answered E) (before after : ℕ) → IsErr failed → SpendsAtMost (starting_slots question s) before after → ExploresFor question policy s (explored_in failed) before after
  explores-before failed before after is starts = subst (λ (told : Option Explored). ExploresFor question policy s told before after) (sym (failed-none failed is))
      (record { begun = after; starts = starts; goes_on = searches-none after })

  -- nothing was done
  pub explores-none : (n : ℕ) → ExploresFor question policy s None n n
  explores-none n = record { begun = n; starts = spends-none _ n; goes_on = searches-none n }

  -- the count never falls
  pub explores-grow : (told : Option Explored) (before after : ℕ) → ExploresFor question policy s told before after → before ≤ after
  explores-grow told before after e =
      let starts = e.starts.grows in
      let searches = e.goes_on.searches.spends.grows in
      let tells = e.goes_on.tells.grows in
      omega (arith, starts, searches, tells)

  -- the search came to an answer, and the steps of its choices were counted, or couldn't be
  module _ {E : Type 0} (answer : Explored) (before mid after : ℕ) (spent : SearchSpends {E = E} question policy s (Ok answer) before mid) (answers : IsAnswerTo question policy s answer)
      (tells : SpendsAtMost (telling_slots question s (told_path answer)) mid after) where
    pub searches-told : SearchesFor question policy s (Some answer) before after
    searches-told = record {
      same = same_state;
      decides = state_decides;
      ended = mid;
      searches = spent-ok (searched_of question policy s) _ _ _ answer spent;
      answer = Some answer;
      is = refl;
      answers = answers;
      tells = tells;
    }

    pub searches-untold : {F : Type 0} (failed : Result Answered F) → IsErr failed → SearchesFor question policy s (explored_in failed) before after
    searches-untold failed is = subst (λ (told : Option Explored). SearchesFor question policy s told before after) (sym (failed-none failed is)) (record {
      same = same_state;
      decides = state_decides;
      ended = mid;
      searches = spent-err (searched_of question policy s) _ _ _ (Ok answer) (search_result None) refl spent;
      answer = Some answer;
      is = tt;
      answers = answers;
      tells = tells;
    })
