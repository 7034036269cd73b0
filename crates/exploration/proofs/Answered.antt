-- From the answer of a search to what it says of the machine.
use Rattle.std.proofs.Common.{◌≡◌, ◌≢◌, ◌∙◌, ℕ, suc, ◌<◌, ◌≤◌, ◌⊎◌, inl, inr, ◌++◌, Bool, true, false, List, [], ◌∷◌, length, slice_get, slice_index, Option, Some, None, MatchOption, AllPairs, refl, sym, ap, subst, arith, length-append, true≢false}
use Rattle.std.proofs.Math.Path.{fun_ext}
use Rattle.std.specs.List.{All, Contains, IsDistinct}
use Rattle.std.proofs.lemmas.Bool.{cases_lt}
use Rattle.std.proofs.lemmas.List.Elements.{All-contains, All-push, All-weaker}
use Rattle.std.proofs.lemmas.List.Folds.{list_any_at}
use Rattle.std.proofs.lemmas.Map.Made.{AllPairs-from_IsDistinct}
use Rattle.std.proofs.lemmas.Option.{get_or_from_slice_get, slice_get-get_or, slice_get_within}
use Rattle.machine_state.specs.State.{State}
use Rattle.separation_policy.specs.Policy.{PolicyValue}
use Rattle.breadth_first.specs.Answer.{AreCounts, EndsByDepth, EndsByStates, LeavesOut as LeavesOutIn, IsAnswer, IsAsFar, IsClosed, IsFirst as IsFirstIn, IsFound, IsOpen, IsSeen, seen}
use Rattle.breadth_first.specs.Paths.{after}
use Rattle.breadth_first.specs.System.{System, IsEquality}
use Rattle.breadth_first.proofs.One.{one_answer}
use Rattle.breadth_first.specs.declared.answer.Count.{Count}
use Rattle.breadth_first.specs.declared.answer.Explored.{Explored}
use Rattle.breadth_first.specs.declared.answer.Explored.TheVariants.{Found, Closed, Open}
use Rattle.breadth_first.specs.declared.answer.Limits.{Limits}
use Rattle.breadth_first.specs.declared.answer.Missed.TheVariants.{Lost, Avoided}
use Rattle.breadth_first.specs.declared.answer.Size.{Size}
use Rattle.questions.specs.Question.{QuestionValue, first_failing, holds, is_count}
use Rattle.questions.specs.Asking.{asking}
use Rattle.exploration.specs.Explored.{AllMustCome, AllSeen, AreCounted, AreDistinct, Avoids, FailsAt, IsAskedFrom, IsExact, IsFirst, IsLimited, IsReached, IsSafe, LeavesOut, MustCome, NoneFails, Says, SomeAt, SomeSeen, come_to, limits_of, system_of, wanted, wants_of}
use Rattle.exploration.specs.Laws.{ExactLaw, OneAnswerLaw, SaysLaw}
use Rattle.exploration.proofs.Missing.{all-can, all-must, avoided-at, lost-at}
use Rattle.exploration.proofs.Runs.{after-is, after-on}
use Rattle.exploration.proofs.Safe.{fails-some, safe-none}

module _ (question : QuestionValue) (policy : PolicyValue) (same : State → State → Bool) (decides : IsEquality same) (s : State) where
  abbrev g : System State
  g = system_of question policy same s

  abbrev limits : Limits
  limits = limits_of question

  abbrev counts : List ℕ
  counts = asking is_count question.properties

  -- what a search tells of the state after a list of choices
  told : {X : Type 0} (f : State → X) (path : List ℕ) (x : X) → f (after g s path) ≡ x → f (come_to question policy s path) ≡ x
  told f path x is = ap f (sym (after-is question policy same s s path)) ∙ is

  safe : (path : List ℕ) → first_failing question policy (after g s path) ≡ None → IsSafe question policy (come_to question policy s path)
  safe path none = safe-none question policy (come_to question policy s path) (told (first_failing question policy) path None none)

  -- ---- found

  fails : (n : ℕ) (path : List ℕ) → IsFound g limits n path → FailsAt question policy s n path
  fails n path f =
      let here = fails-some question policy (come_to question policy s path) n (told (first_failing question policy) path (Some n) f.violates) in
      record {
        never = here.never;
        choices = f.choices;
        fails = here.fails;
        first = here.first;
        shortest = λ other are short. safe other (f.shortest other are short);
        earliest = λ other are long earlier. safe other (f.earliest other are long earlier);
      }

  -- ---- counts

  first-is : (n d : ℕ) (states : List State) → IsFirstIn g states n d → IsFirst question policy s n d
  first-is n d states f = record {
    path = f.path;
    choices = f.choices;
    long = f.long;
    met = told (λ t. holds question policy t n) f.path true f.passes;
    least = λ other are short. told (λ t. holds question policy t n) other false (f.least other are short);
  }

  first-of : (n : ℕ) (states : List State) (first : Option ℕ) → MatchOption first (All (λ t. holds question policy t n ≡ false) states) (IsFirstIn g states n)
      → MatchOption first (All (λ t. holds question policy t n ≡ false) states) (IsFirst question policy s n)
  first-of n states None none = none
  first-of n states (Some d) f = first-is n d states f

  counted : (states : List State) (all : List Count) → AreCounts g states counts all → AreCounted question policy s states all
  counted states all c = record {
    many = c.many;
    each = λ i count some.
        let within = slice_get_within all i count some in
        let inside : i < length counts = omega (arith, within, c.many) in
        let n = slice_index counts i in
        let there : slice_get counts i ≡ Some n = slice_get-get_or counts i 0 inside in
        let it = c.each i n count there some in record { number = it.number; first = first-of n states count.first it.first };
  }

  -- ---- all states

  reached-is : (most : ℕ) (t : State) → IsSeen g most t → IsReached question policy s most t
  reached-is most t is = record {
    path = is.path;
    choices = is.choices;
    few = is.few;
    leads = sym (after-is question policy same s s is.path) ∙ is.leads;
  }

  has : (states : List State) (path : List ℕ) → Contains states (after g s path) → Contains states (come_to question policy s path)
  has states path c = subst (λ t. Contains states t) (after-is question policy same s s path) c

  -- no state stands twice
  apart : (states : List State) → IsDistinct same states → AreDistinct question policy s states
  apart states distinct i j t here there = by (cases_lt i j) (cases_lt j i)
    where
      differ : AllPairs (λ a b. a ≢ b) states
      differ = AllPairs-from_IsDistinct decides states distinct

      by : (i < j) ⊎ (j ≤ i) → (j < i) ⊎ (i ≤ j) → i ≡ j
      by (inl l) _ = absurd (differ i j t l (slice_get_within states j t there) (get_or_from_slice_get states i t t here ∙ sym (get_or_from_slice_get states j t t there)))
      by (inr k) (inl l) = absurd (differ j i t l (slice_get_within states i t here) (get_or_from_slice_get states j t t there ∙ sym (get_or_from_slice_get states i t t here)))
      by (inr k) (inr l) = omega (arith, k, l)

  as-far : (d : ℕ) → IsAsFar g d → SomeAt question policy s d
  as-far d far = record {
    path = far.path;
    choices = far.choices;
    long = far.long;
    new = λ other are short e. far.new other are short (after-is question policy same s s other ∙ e ∙ sym (after-is question policy same s s far.path));
  }

  all-seen : (size : Size) (all : List Count) → IsClosed g limits size → AreCounts g (seen g size) counts all → AllSeen question policy s size all
  all-seen size all c count = record {
    states = seen g size;
    number = c.states;
    distinct = apart (seen g size) c.distinct;
    each = All-weaker (IsSeen g size.depth) (IsReached question policy s size.depth) (reached-is size.depth) (seen g size) c.each;
    all = λ path are. has (seen g size) path (c.all path are);
    tried = c.tried;
    farthest = as-far size.depth c.farthest;
    counted = counted (seen g size) all count;
  }

  -- the state that wasn't kept is reached by one choice more, and wasn't seen
  left : (size : Size) → IsOpen g limits size → LeavesOut question policy s (seen g size) size.depth
  left size o = record {
    path = e.came.path ++ e.choice ∷ [];
    choices = All-push (λ i. i < g.choices) e.came.path e.choice e.came.choices e.within;
    long = long (cases_lt size.depth (length (e.came.path ++ e.choice ∷ [])));
    out = λ c. unseen (subst (Contains (seen g size)) leads c);
  }
    where
      e : LeavesOutIn g size
      e = o.left

      leads : come_to question policy s (o.left.came.path ++ o.left.choice ∷ []) ≡ g.next o.left.parent o.left.choice
      leads = sym (after-on question policy same s s e.came.path (e.choice ∷ [])) ∙ ap (λ t. g.next t e.choice) e.came.leads

      unseen : Contains (seen g size) (g.next o.left.parent o.left.choice) → ⊥
      unseen c =
          let t = g.next e.parent e.choice in
          true≢false (sym (list_any_at (same t) (seen g size) c.0 t c.1 (ap (same t) c.2 ∙ (decides t t).1 refl)) ∙ e.new)

      most : length (o.left.came.path ++ o.left.choice ∷ []) ≤ suc size.depth
      most = omega (arith, e.came.few, length-append e.came.path (e.choice ∷ []))

      long : (size.depth < length (o.left.came.path ++ o.left.choice ∷ [])) ⊎ (length (o.left.came.path ++ o.left.choice ∷ []) ≤ size.depth) → length (o.left.came.path ++ o.left.choice ∷ []) ≡ suc size.depth
      long (inl l) = omega (arith, l, most)
      long (inr l) =
          let path = e.came.path ++ e.choice ∷ [] in
          let are = All-push (λ i. i < g.choices) e.came.path e.choice e.came.choices e.within in
          absurd (unseen (subst (Contains (seen g size)) leads (has (seen g size) path (o.within path are l))))

  limited : (size : Size) → EndsByDepth g limits size ⊎ EndsByStates g limits size → IsLimited question policy s size
  limited size (inl e) = inl (e.limit, as-far size.depth e.farthest)
  limited size (inr e) = inr e.limit

  some-seen : (size : Size) (all : List Count) → IsOpen g limits size → AreCounts g (seen g size) counts all → SomeSeen question policy s size all
  some-seen size all o count = record {
    states = seen g size;
    number = o.states;
    distinct = apart (seen g size) o.distinct;
    each = All-weaker (IsSeen g (suc size.depth)) (IsReached question policy s (suc size.depth)) (reached-is (suc size.depth)) (seen g size) o.each;
    all = λ path are short. has (seen g size) path (o.within path are short);
    safe = All-weaker (IsSeen g (suc size.depth)) (IsSafe question policy) (λ t is. safe-none question policy t is.holds) (seen g size) o.each;
    limited = limited size o.limit;
    left = left size o;
    counted = counted (seen g size) all count;
  }

  none-fails : (size : Size) → IsClosed g limits size → NoneFails question policy s
  none-fails size c path are = safe path (c.holds path are)

  -- ---- all answers

  says : (answer : Explored) → IsAnswer g limits (wants_of question) counts answer → Says question policy s answer
  says (Found n path) is = fails n path.items is
  says (Closed size all None) is =
      (none-fails size is.0, all-can question policy same decides s size.states is.2, all-must question policy same decides s size.states is.2, all-seen size all.items is.0 is.1)
  says (Closed size all (Some (Lost l))) is =
      (none-fails size is.0, lost-at question policy same decides s (seen g size) size.states l is.2, all-seen size all.items is.0 is.1)
  says (Closed size all (Some (Avoided a))) is =
      (none-fails size is.0, avoided-at question policy same decides s (seen g size) size.states a is.2, all-seen size all.items is.0 is.1)
  says (Open size all) is = (λ path are short. safe path (is.0.holds path are short), some-seen size all.items is.0 is.1)

  -- a `never` that fails and doesn't
  both : (b : Bool) → b ≡ true → b ≡ false → ⊥
  both b is other = let bad : true ≡ false = sym is ∙ other in cc

  exact : (answer : Explored) → Says question policy s answer → IsExact question policy s answer
  exact (Found n path) is = λ none. both _ is.fails (none path.items is.choices n is.never)
  exact (Closed size all None) is = (is.0, is.1, is.2)
  exact (Closed size all (Some (Lost l))) is = λ all.
      let at = is.1 in
      let can = all _ at.ever l.path.items at.choices in
      both _ can.holds (at.lost can.on can.choices)
  exact (Closed size all (Some (Avoided a))) is = λ rounds all. by rounds all is.1.avoids is.1.avoids.asked
    where
      evaded : (rounds n : ℕ) (path cycle : List ℕ) (it : Avoids question policy s n path cycle) → MustCome question policy s rounds n (come_to question policy s it.stem) → ⊥
      evaded rounds n path cycle it must = let e = it.evades rounds in both _ (must e.rounds e.many e.are) e.never

      by : (rounds : ℕ) → AllMustCome question policy s rounds → (it : Avoids question policy s (wanted question policy s a.want) a.path.items a.cycle.items)
          → IsAskedFrom question policy s (wanted question policy s a.want) (come_to question policy s it.stem) → ⊥
      by rounds all it (inl asked) =
          evaded rounds _ a.path.items a.cycle.items it (subst (λ t. MustCome question policy s rounds (wanted question policy s a.want) t) (sym asked.1) (all.must _ asked.0))
      by rounds all it (inr asked) = evaded rounds _ a.path.items a.cycle.items it (all.after _ asked.0 it.stem it.choices asked.1)
  exact (Open size all) is = tt

pub says_law : SaysLaw
says_law question policy s answer is = says question policy is.same is.decides s answer is.searched

pub exact_law : ExactLaw
exact_law question policy s answer is = exact question policy is.same is.decides s answer (says_law question policy s answer is)

-- two equalities of states are one
one-equality : (same alike : State → State → Bool) → IsEquality same → IsEquality alike → same ≡ alike
one-equality same alike is are = fun_ext (λ a. fun_ext (λ b. equal (same a b) (alike a b) (λ e. (are a b).1 ((is a b).0 e)) (λ e. (is a b).1 ((are a b).0 e))))
  where
    equal : (x y : Bool) → (x ≡ true → y ≡ true) → (y ≡ true → x ≡ true) → x ≡ y
    equal true y on back = sym (on refl)
    equal false true on back = back refl
    equal false false on back = refl

pub one_answer_law : OneAnswerLaw
one_answer_law question policy s a b x y =
    let one = one-equality x.same y.same x.decides y.decides in
    one_answer (system_of question policy y.same s) y.decides (limits_of question) (wants_of question) (asking is_count question.properties) a b
    (subst (λ same. IsAnswer (system_of question policy same s) (limits_of question) (wants_of question) (asking is_count question.properties) a) one x.searched) y.searched
