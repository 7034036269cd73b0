-- Explorations: what is searched for a question, and what is so of the machine. (Own.)
--
-- All is said of the abstract machine: of the states to which lists of the question's choices lead from a state.
use Rattle.std.specs.Prelude.{◌≡◌, ◌≢◌, ℕ, suc, ◌+◌, ◌*◌, ◌<◌, ◌≤◌, ◌⊎◌, Bool, true, false, List, ◌++◌, length, map, slice_get, slice_index, Some, None, MatchOption, count_by, sum_by, ⊤}
use Rattle.std.specs.List.{All, Contains}
use Rattle.machine_state.specs.State.{State}
use Rattle.separation_policy.specs.Policy.{PolicyValue}
use Rattle.breadth_first.specs.System.{System}
use Rattle.breadth_first.specs.Paths.{IsEarlier}
use Rattle.fair_rounds.specs.Rounds.{Evades, IsLasso, MustWithin}
use Rattle.breadth_first.specs.declared.answer.Limits.{Limits}
use Rattle.breadth_first.specs.declared.answer.Size.{Size}
use Rattle.breadth_first.specs.declared.answer.Count.{Count}
use Rattle.breadth_first.specs.declared.answer.Want.{Want}
use Rattle.breadth_first.specs.declared.answer.Want.TheVariants as wants
use Rattle.breadth_first.specs.declared.answer.Missed.TheVariants.{Lost, Avoided}
use Rattle.breadth_first.specs.declared.answer.Explored.{Explored}
use Rattle.breadth_first.specs.declared.answer.Explored.TheVariants.{Found, Closed, Open}
use Rattle.questions.specs.Choice.{AreChoices, after, after_choice, choice_at}
use Rattle.questions.specs.declared.asks.Asks.{Asks}
use Rattle.questions.specs.declared.asks.Asks.TheVariants.{Must, MustAfter}
use Rattle.questions.specs.Question.{PropertyValue, QuestionValue, atoms_in, choices_of, count_atoms, first_failing, first_holds, holds, is_count, is_ever, is_must, is_must_after, is_never, watch_for}
use Rattle.questions.specs.Asking.{asking, is_want, property_at}
use Rattle.state_choices.specs.Slots.{all_slots, choice_slots}

-- where a choice leads, by its number
abbrev pub next_state : QuestionValue → State → ℕ → State
next_state question t i = after_choice (watch_for question.properties) t (choice_at (choices_of question) i)

-- how many slots of GPTs any other look at a state reads at most: to go there, whether the policy holds, and what the atoms of
-- all properties ask. All states have as many GPTs as this one
abbrev pub look_slots : QuestionValue → State → ℕ
look_slots question s = all_slots s + all_slots s + 16 * sum_by (λ property. atoms_in property + count_atoms property.first) question.properties

-- what is searched for a question: the states of the abstract machine from this one on, where `same` compares two
abbrev pub system_of : QuestionValue → PolicyValue → (State → State → Bool) → State → System State
system_of question policy same s = record {
  start = s;
  choices = length (choices_of question);
  next = next_state question;
  same = same;
  violated = first_failing question policy;
  tests = length question.properties;
  test = λ n t. holds question policy t n;
  first = λ n t. first_holds question policy t n;
  cost = λ t n. choice_slots (watch_for question.properties) t (choice_at (choices_of question) n);
  look = look_slots question s;
}

-- what a property wants of the states that are reached, by its number, where it asks what comes
abbrev pub want_by : Asks → ℕ → Want
want_by Must n = wants.Must n
want_by MustAfter n = wants.MustAfter n
want_by _ n = wants.Ever n

-- all that properties want, in the order of their lines
abbrev pub wants_by : List PropertyValue → List Want
wants_by properties = map (λ n. want_by (property_at properties n).asks n) (asking is_want properties)

-- all that a question wants
abbrev pub wants_of : QuestionValue → List Want
wants_of question = wants_by question.properties

-- how far the search goes
abbrev pub limits_of : QuestionValue → Limits
limits_of question = record { depth = question.depth; states = question.states }

-- property `n` is there and asks this
pub record IsAsked (question : QuestionValue) (asks : Bool) (n : ℕ) : Type 0 where
  pub there : n < length question.properties
  pub asked : asks ≡ true

-- it is a `never`
abbrev pub AsksNever : QuestionValue → ℕ → Type 0
AsksNever question n = IsAsked question (is_never (property_at question.properties n).asks) n

-- it is an `ever`
abbrev pub AsksEver : QuestionValue → ℕ → Type 0
AsksEver question n = IsAsked question (is_ever (property_at question.properties n).asks) n

-- it is a `must`
abbrev pub AsksMust : QuestionValue → ℕ → Type 0
AsksMust question n = IsAsked question (is_must (property_at question.properties n).asks) n

-- it is an `after .. must`
abbrev pub AsksMustAfter : QuestionValue → ℕ → Type 0
AsksMustAfter question n = IsAsked question (is_must_after (property_at question.properties n).asks) n

-- no `never` fails in a state
abbrev pub IsSafe : QuestionValue → PolicyValue → State → Type 0
IsSafe question policy t = (n : ℕ) → AsksNever question n → holds question policy t n ≡ false

module _ (question : QuestionValue) (policy : PolicyValue) (s : State) where
  -- the state to which a list of the question's choices leads
  abbrev pub come_to : List ℕ → State
  come_to path = after (watch_for question.properties) (choices_of question) s path

  -- a list of the question's choices
  abbrev pub AreOf : List ℕ → Type 0
  AreOf path = AreChoices (choices_of question) path

  -- ---- never

  -- whatever the choices, no `never` fails in the state after them
  abbrev pub NoneFails : Type 0
  NoneFails = (path : List ℕ) → AreOf path → IsSafe question policy (come_to path)

  -- the same of at most `d` choices
  abbrev pub NoneFailsWithin : ℕ → Type 0
  NoneFailsWithin d = (path : List ℕ) → AreOf path → length path ≤ d → IsSafe question policy (come_to path)

  -- ---- ever

  -- from a state that a list of choices leads to, some others lead to one in which all atoms of property `n` hold
  pub record CanCome (path : List ℕ) (n : ℕ) : Type 0 where
    pub on : List ℕ
    pub choices : AreOf on
    pub holds : holds question policy (come_to (path ++ on)) n ≡ true

  -- whatever the choices, all atoms of each `ever` can come to hold behind them
  abbrev pub AllCanCome : Type 0
  AllCanCome = (n : ℕ) → AsksEver question n → (path : List ℕ) → AreOf path → CanCome path n

  -- ---- must

  -- whatever so many rounds of choices from a state on are, they pass one in which all atoms of property `n` hold; the state
  -- itself counts
  abbrev pub MustCome : ℕ → ℕ → State → Type 0
  MustCome rounds n t = MustWithin (next_state question) (λ u. holds question policy u n) (length (choices_of question)) t rounds

  -- the atoms of each `must` come within so many rounds: from the start on, or, whatever the choices, from each state on in
  -- which its first atoms hold
  pub record AllMustCome (rounds : ℕ) : Type 0 where
    pub must : (n : ℕ) → AsksMust question n → MustCome rounds n s
    pub after : (n : ℕ) → AsksMustAfter question n → (path : List ℕ) → AreOf path
        → first_holds question policy (come_to path) n ≡ true → MustCome rounds n (come_to path)

  -- what property `n` asks to come does so, where it asks for that
  pub record IsMet (rounds n : ℕ) : Type 0 where
    pub ever : AsksEver question n → (path : List ℕ) → AreOf path → CanCome path n
    pub must : AsksMust question n → MustCome rounds n s
    pub after : AsksMustAfter question n → (path : List ℕ) → AreOf path
        → first_holds question policy (come_to path) n ≡ true → MustCome rounds n (come_to path)

  -- ---- found, lost and avoided

  -- property `n` is the first `never` that fails in the state after these choices, and none fails after fewer, or after as
  -- many that come earlier in the order of choices
  pub record FailsAt (n : ℕ) (path : List ℕ) : Type 0 where
    pub never : AsksNever question n
    pub choices : AreOf path
    pub fails : holds question policy (come_to path) n ≡ true
    pub first : (m : ℕ) → m < n → AsksNever question m → holds question policy (come_to path) m ≡ false
    pub shortest : (other : List ℕ) → AreOf other → length other < length path → IsSafe question policy (come_to other)
    pub earliest : (other : List ℕ) → AreOf other → length other ≡ length path → IsEarlier other path → IsSafe question policy (come_to other)

  -- property `n` is the first of those that ask what comes that isn't met, and an `ever`: its atoms can't come to hold behind
  -- these choices, and can behind any that are fewer, or as many that come earlier in the order of choices
  pub record LostAt (rounds n : ℕ) (path : List ℕ) : Type 0 where
    pub ever : AsksEver question n
    pub choices : AreOf path
    pub lost : (on : List ℕ) → AreOf on → holds question policy (come_to (path ++ on)) n ≡ false
    pub shortest : (other : List ℕ) → AreOf other → length other < length path → CanCome other n
    pub earliest : (other : List ℕ) → AreOf other → length other ≡ length path → IsEarlier other path → CanCome other n
    pub first : (m : ℕ) → m < n → IsMet rounds m

  -- property `n` asks for its atoms from this state on
  abbrev pub IsAskedFrom : ℕ → State → Type 0
  IsAskedFrom n t = (AsksMust question n × (t ≡ s)) ⊎ (AsksMustAfter question n × (first_holds question policy t n ≡ true))

  -- the path goes by a state from which property `n` asks for its atoms, and on to one to which the cycle, a round, leads
  -- back; from that state on its atoms hold in none that is passed, so any number of rounds can do without them
  pub record Avoids (n : ℕ) (path cycle : List ℕ) : Type 0 where
    pub stem : List ℕ
    pub rest : List ℕ
    pub parts : path ≡ stem ++ rest
    pub choices : AreOf stem
    pub asked : IsAskedFrom n (come_to stem)
    pub lasso : IsLasso (next_state question) (λ u. holds question policy u n) (length (choices_of question)) (come_to stem) rest cycle
    pub evades : (most : ℕ) → Evades (next_state question) (λ u. holds question policy u n) (length (choices_of question)) (come_to stem) most

  -- property `n` is the first of those that ask what comes that isn't met, and a `must`: this avoids its atoms, and nothing
  -- does whose path is shorter, or as long and earlier
  pub record AvoidedAt (rounds n : ℕ) (path cycle : List ℕ) : Type 0 where
    pub avoids : Avoids n path cycle
    pub shortest : (other round : List ℕ) → Avoids n other round → length path ≤ length other
    pub earliest : (other round : List ℕ) → Avoids n other round → length other ≡ length path → IsEarlier other path → ⊥
    pub first : (m : ℕ) → m < n → IsMet rounds m

  -- ---- states and counts

  -- a list of choices of at most this length leads to the state
  pub record IsReached (most : ℕ) (t : State) : Type 0 where
    pub path : List ℕ
    pub choices : AreOf path
    pub few : length path ≤ most
    pub leads : come_to path ≡ t

  -- no state stands among these twice
  abbrev pub AreDistinct : List State → Type 0
  AreDistinct states = (i j : ℕ) (t : State) → slice_get states i ≡ Some t → slice_get states j ≡ Some t → i ≡ j

  -- all atoms of property `n` hold in the state after some list of `d` choices, and in none after fewer
  pub record IsFirst (n d : ℕ) : Type 0 where
    pub path : List ℕ
    pub choices : AreOf path
    pub long : length path ≡ d
    pub met : holds question policy (come_to path) n ≡ true
    pub least : (other : List ℕ) → AreOf other → length other < d → holds question policy (come_to other) n ≡ false

  -- a count is that of the states in which all atoms of property `n` hold, with how few choices lead to the first of them
  pub record IsCounted (states : List State) (n : ℕ) (count : Count) : Type 0 where
    pub number : count.states ≡ count_by (λ t. holds question policy t n) states
    pub first : MatchOption count.first (All (λ t. holds question policy t n ≡ false) states) (IsFirst n)

  -- each count is that of its property
  pub record AreCounted (states : List State) (counts : List Count) : Type 0 where
    pub many : length counts ≡ length (asking is_count question.properties)
    pub each : (i : ℕ) (count : Count) → slice_get counts i ≡ Some count
        → IsCounted states (slice_index (asking is_count question.properties) i) count

  -- some list of `d` choices leads to a state to which no fewer choices lead
  pub record SomeAt (d : ℕ) : Type 0 where
    pub path : List ℕ
    pub choices : AreOf path
    pub long : length path ≡ d
    pub new : (other : List ℕ) → AreOf other → length other < d → come_to other ≢ come_to path

  -- these are all states that are reached, each once, and `depth` is the least number of choices that lead to the farthest
  -- of them; the counts are theirs, and each choice of each was tried
  pub record AllSeen (size : Size) (counts : List Count) : Type 0 where
    pub states : List State
    pub number : length states ≡ size.states
    pub distinct : AreDistinct states
    pub each : All (IsReached size.depth) states
    pub all : (path : List ℕ) → AreOf path → Contains states (come_to path)
    pub tried : size.tried ≡ size.states * length (choices_of question)
    pub farthest : SomeAt size.depth
    pub counted : AreCounted states counts

  -- one choice more than `depth` leads to a state that isn't among these
  pub record LeavesOut (states : List State) (depth : ℕ) : Type 0 where
    pub path : List ℕ
    pub choices : AreOf path
    pub long : length path ≡ suc depth
    pub out : Contains states (come_to path) → ⊥

  -- which limit ended a search: that of choices, where no fewer lead to some state, or that of states
  abbrev pub IsLimited : Size → Type 0
  IsLimited size = ((question.depth ≡ Some size.depth) × SomeAt size.depth) ⊎ (question.states ≡ Some size.states)

  -- these are states that are reached, each once, and all within `depth` choices are among them; no `never` fails in any of
  -- them, the counts are theirs, a limit ended the search, and some state that a choice more leads to isn't among them
  pub record SomeSeen (size : Size) (counts : List Count) : Type 0 where
    pub states : List State
    pub number : length states ≡ size.states
    pub distinct : AreDistinct states
    pub each : All (IsReached (suc size.depth)) states
    pub all : (path : List ℕ) → AreOf path → length path ≤ size.depth → Contains states (come_to path)
    pub safe : All (IsSafe question policy) states
    pub limited : IsLimited size
    pub left : LeavesOut states size.depth
    pub counted : AreCounted states counts

  -- the number of the property that is this one of those that ask what comes
  abbrev pub wanted : ℕ → ℕ
  wanted want = slice_index (asking is_want question.properties) want

  -- what an answer says of the states to which the question's choices lead
  abbrev pub Says : Explored → Type 0
  Says (Found n path) = FailsAt n path.items
  Says (Closed size counts None) = NoneFails × AllCanCome × AllMustCome size.states × AllSeen size counts.items
  Says (Closed size counts (Some (Lost l))) = NoneFails × LostAt size.states (wanted l.want) l.path.items × AllSeen size counts.items
  Says (Closed size counts (Some (Avoided a))) = NoneFails × AvoidedAt size.states (wanted a.want) a.path.items a.cycle.items × AllSeen size counts.items
  Says (Open size counts) = NoneFailsWithin size.depth × SomeSeen size counts.items

  -- an answer is yes exactly where the question's is, unless a limit ended the search
  abbrev pub IsExact : Explored → Type 0
  IsExact (Found n path) = NoneFails → ⊥
  IsExact (Closed size counts None) = NoneFails × AllCanCome × AllMustCome size.states
  IsExact (Closed size counts (Some (Lost l))) = AllCanCome → ⊥
  IsExact (Closed size counts (Some (Avoided a))) = (rounds : ℕ) → AllMustCome rounds → ⊥
  IsExact (Open size counts) = ⊤
