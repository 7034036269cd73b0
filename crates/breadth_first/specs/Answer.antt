-- What a search answers.
use Rattle.std.specs.Prelude.{◌≡◌, ◌≢◌, ℕ, zero, suc, ◌+◌, ◌*◌, ◌<◌, ◌≤◌, ◌⊎◌, Bool, true, false, List, length, take, All, Contains, Option, None, Some, IfSome, is_some, find, count_by, slice_get, MatchOption}
use Rattle.std.specs.List.{list_any, IsDistinct}
use Rattle.breadth_first.specs.System.{System}
use Rattle.fair_rounds.specs.Rounds.{MustWithin, IsShortest}
use Rattle.breadth_first.specs.Paths.{after, AreChoices, CanCome, MustCome, IsEarlier}
use Rattle.breadth_first.specs.Order.{trying, opened, reached}
use Rattle.breadth_first.specs.declared.answer.Limits.{Limits}
use Rattle.breadth_first.specs.declared.answer.Size.{Size}
use Rattle.breadth_first.specs.declared.answer.Count.{Count}
use Rattle.breadth_first.specs.declared.answer.Want.{Want}
use Rattle.breadth_first.specs.declared.answer.Want.TheVariants.{Ever, Must, MustAfter}
use Rattle.breadth_first.specs.declared.answer.Missed.{Missed}
use Rattle.breadth_first.specs.declared.answer.Missed.TheVariants.{Lost, Avoided}
use Rattle.breadth_first.specs.declared.answer.Explored.{Explored}
use Rattle.breadth_first.specs.declared.answer.Explored.TheVariants.{Found, Closed, Open}

-- which of the wants, from 0
abbrev pub want_of : Missed → ℕ
want_of (Lost lost) = lost.want
want_of (Avoided avoided) = avoided.want

module _ {S : Type 0} (g : System S) where
  -- the states that were seen, in their order: all within `depth` choices, and of those behind them as many as there was
  -- room for
  abbrev pub seen : Size → List S
  seen size = take size.states (reached g (suc size.depth))

  -- the first state of a list that violates a property
  abbrev pub first_violating : List S → Option S
  first_violating states = find (λ s. is_some (g.violated s)) states

  -- the path leads to a state that violates the property, and no shorter one, and none of its length that is earlier, leads
  -- to one that violates any; the state is the first such one of the breadth-first order, and there was room for it
  pub record IsFound (limits : Limits) (property : ℕ) (path : List ℕ) : Type 0 where
    pub far : IfSome limits.depth (λ n. length path ≤ n)
    pub choices : AreChoices g path
    pub violates : g.violated (after g g.start path) ≡ Some property
    pub shortest : (other : List ℕ) → AreChoices g other → length other < length path → g.violated (after g g.start other) ≡ None
    pub earliest : (other : List ℕ) → AreChoices g other → length other ≡ length path → IsEarlier other path → g.violated (after g g.start other) ≡ None
    pub first : first_violating (reached g (length path)) ≡ Some (after g g.start path)
    pub index : ℕ
    pub at : slice_get (reached g (length path)) index ≡ Some (after g g.start path)
    pub room : IfSome limits.states (λ n. index < n)

  -- some path of `d` choices leads to a state to which no shorter one does
  pub record IsAsFar (d : ℕ) : Type 0 where
    pub path : List ℕ
    pub choices : AreChoices g path
    pub long : length path ≡ d
    pub new : (other : List ℕ) → AreChoices g other → length other < d → after g g.start other ≢ after g g.start path

  -- a state was seen: some choices lead to it, and it violates no property
  pub record IsSeen (most : ℕ) (s : S) : Type 0 where
    pub path : List ℕ
    pub choices : AreChoices g path
    pub few : length path ≤ most
    pub leads : after g g.start path ≡ s
    pub holds : g.violated s ≡ None

  -- whatever the choices, the state after them was seen; those seen are distinct, and as many as are told; each choice
  -- of each was tried; and fewer choices than `depth` don't lead to all of them, nor to some that is as far
  pub record IsClosed (limits : Limits) (size : Size) : Type 0 where
    pub far : IfSome limits.depth (λ n. size.depth ≤ n)
    pub room : IfSome limits.states (λ n. size.states ≤ n)
    pub states : length (seen size) ≡ size.states
    pub distinct : IsDistinct g.same (seen size)
    pub each : All (IsSeen size.depth) (seen size)
    pub all : (path : List ℕ) → AreChoices g path → Contains (seen size) (after g g.start path)
    pub holds : (path : List ℕ) → AreChoices g path → g.violated (after g g.start path) ≡ None
    pub tried : size.tried ≡ size.states * g.choices
    pub least : (d : ℕ) → d < size.depth → length (reached g d) < size.states
    pub farthest : IsAsFar size.depth
    pub within : length (reached g size.depth) ≡ size.states
    pub still : reached g (suc size.depth) ≡ reached g size.depth

  -- how many states fewer than `d` choices lead to
  abbrev pub before : ℕ → ℕ
  before zero = 0
  before (suc d) = length (reached g d)

  -- `choice` of the state with the index `at`, which no fewer than `depth` choices lead to, leads to a state that wasn't kept,
  -- and all choices before it to states that were
  pub record LeavesOut (size : Size) : Type 0 where
    pub at : ℕ
    pub parent : S
    pub choice : ℕ
    pub state : slice_get (reached g size.depth) at ≡ Some parent
    pub came : IsSeen size.depth parent
    pub last : before size.depth ≤ at
    pub within : choice < g.choices
    pub kept : seen size ≡ trying g (opened g at) parent choice
    pub new : list_any (g.same (g.next parent choice)) (seen size) ≡ false
    pub tried : size.tried ≡ at * g.choices + choice + 1

  -- the limit of choices was met: those that were seen are the states that as many lead to, and to some of them no fewer do
  pub record EndsByDepth (limits : Limits) (size : Size) : Type 0 where
    pub limit : limits.depth ≡ Some size.depth
    pub states : size.states ≡ length (reached g size.depth)
    pub last : before size.depth < size.states
    pub farthest : IsAsFar size.depth

  -- the limit of states was met
  pub record EndsByStates (limits : Limits) (size : Size) : Type 0 where
    pub limit : limits.states ≡ Some size.states
    pub far : IfSome limits.depth (λ n. size.depth < n)

  -- a limit ended the search: all states within `depth` choices were seen, none of those seen violates a property, and a choice
  -- of one of them leads to a state that wasn't kept
  pub record IsOpen (limits : Limits) (size : Size) : Type 0 where
    pub far : IfSome limits.depth (λ n. size.depth ≤ n)
    pub room : IfSome limits.states (λ n. size.states ≤ n)
    pub states : length (seen size) ≡ size.states
    pub distinct : IsDistinct g.same (seen size)
    pub each : All (IsSeen (suc size.depth)) (seen size)
    pub within : (path : List ℕ) → AreChoices g path → length path ≤ size.depth → Contains (seen size) (after g g.start path)
    pub holds : (path : List ℕ) → AreChoices g path → length path ≤ size.depth → g.violated (after g g.start path) ≡ None
    pub left : LeavesOut size
    pub limit : EndsByDepth limits size ⊎ EndsByStates limits size

  -- some path of `d` choices leads to one of the states, which passes the test, and none with fewer leads to any that does
  pub record IsFirst (states : List S) (t d : ℕ) : Type 0 where
    pub path : List ℕ
    pub choices : AreChoices g path
    pub long : length path ≡ d
    pub there : Contains states (after g g.start path)
    pub passes : g.test t (after g g.start path) ≡ true
    pub least : (other : List ℕ) → AreChoices g other → length other < d → g.test t (after g g.start other) ≡ false

  -- how many of the states pass the test, and with how few choices one is reached that does
  pub record IsCount (states : List S) (t : ℕ) (count : Count) : Type 0 where
    pub number : count.states ≡ count_by (g.test t) states
    pub first : MatchOption count.first (All (λ s. g.test t s ≡ false) states) (IsFirst states t)

  -- a count for each of the tests
  pub record AreCounts (states : List S) (tests : List ℕ) (counts : List Count) : Type 0 where
    pub many : length counts ≡ length tests
    pub each : (i t : ℕ) (count : Count) → slice_get tests i ≡ Some t → slice_get counts i ≡ Some count → IsCount states t count

  -- from each state that is reached, some choices lead to one that passes the test
  abbrev pub CanAlwaysCome : ℕ → Type 0
  CanAlwaysCome t = (path : List ℕ) → AreChoices g path → CanCome g t (after g g.start path)

  -- what has to come does, each want in its way; what must come does within so many rounds
  abbrev pub Holds : ℕ → Want → Type 0
  Holds most (Ever t) = CanAlwaysCome t
  Holds most (Must t) = MustWithin g.next (g.test t) g.choices g.start most
  Holds most (MustAfter t) = MustCome g (g.first t) t most

  -- from the state after the path no choices lead to one that passes the test; from each state to which a shorter path leads, or
  -- an earlier one of its length, some do
  pub record IsLost (states : List S) (t : ℕ) (path : List ℕ) : Type 0 where
    pub choices : AreChoices g path
    pub never : (other : List ℕ) → AreChoices g other → g.test t (after g (after g g.start path) other) ≡ false
    pub shortest : (other : List ℕ) → AreChoices g other → length other < length path → CanCome g t (after g g.start other)
    pub earliest : (other : List ℕ) → AreChoices g other → length other ≡ length path → IsEarlier other path → CanCome g t (after g g.start other)
    pub index : ℕ
    pub state : slice_get states index ≡ Some (after g g.start path)
    pub first : (i : ℕ) (s : S) → i < index → slice_get states i ≡ Some s → CanCome g t s

  -- the path leads through a state that begins so to one from which the cycle, a round, leads back to it, and from the one that
  -- begins none passes the test; it is the first among the shortest that do
  abbrev pub IsAvoided : (S → Bool) → ℕ → List ℕ → List ℕ → Type 0
  IsAvoided first t path cycle = IsShortest g.next (g.test t) g.choices first g.start path cycle

  -- a want is missed so
  abbrev pub Misses : List S → Want → Missed → Type 0
  Misses states (Ever t) (Lost lost) = IsLost states t lost.path.items
  Misses states (Ever t) (Avoided avoided) = ⊥
  Misses states (Must t) (Lost lost) = ⊥
  Misses states (Must t) (Avoided avoided) = IsAvoided (g.same g.start) t avoided.path.items avoided.cycle.items
  Misses states (MustAfter t) (Lost lost) = ⊥
  Misses states (MustAfter t) (Avoided avoided) = IsAvoided (g.first t) t avoided.path.items avoided.cycle.items

  -- one of the wants is missed so, and those before it hold
  pub record IsFirstMissed (states : List S) (most : ℕ) (wants : List Want) (missed : Missed) : Type 0 where
    pub want : Want
    pub there : slice_get wants (want_of missed) ≡ Some want
    pub misses : Misses states want missed
    pub earlier : (i : ℕ) (w : Want) → i < want_of missed → slice_get wants i ≡ Some w → Holds most w

  -- the first of the wants that is missed, or all hold
  abbrev pub IsMissed : List S → ℕ → List Want → Option Missed → Type 0
  IsMissed states most wants missed = MatchOption missed (All (Holds most) wants) (IsFirstMissed states most wants)

  -- the answer to a question with these limits, wants and tests
  abbrev pub IsAnswer : Limits → List Want → List ℕ → Explored → Type 0
  IsAnswer limits wants counts (Found property path) = IsFound limits property path.items
  IsAnswer limits wants counts (Closed size told missed) = IsClosed limits size × AreCounts (seen size) counts told.items × IsMissed (seen size) size.states wants missed
  IsAnswer limits wants counts (Open size told) = IsOpen limits size × AreCounts (seen size) counts told.items
