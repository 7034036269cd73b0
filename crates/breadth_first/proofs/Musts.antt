-- From numbered nodes to states: what must come, and what is avoided.
use Rattle.std.proofs.Common.{◌≡◌, ℕ, suc, ◌*◌, ◌<◌, ◌≤◌, ◌⊎◌, inl, inr, Bool, true, false, List, [], ◌∷◌, length, map, set, replicate, get_or, slice_get, Option, Some, None, MatchOption, All, refl, sym, ap, ◌∙◌, subst, arith}
use Rattle.std.proofs.lemmas.Bool.{cases_lt}
use Rattle.std.proofs.lemmas.List.Elements.{All-nil}
use Rattle.std.proofs.lemmas.Option.{slice_get_within, slice_get-get_or, get_or_from_slice_get, same_Some}
use Rattle.reaches_back.specs.Edges.{end_of, AreEdges as AreNumbered}
use Rattle.fair_rounds.specs.Rounds.{MustWithin, AlwaysComes, IsShortest, after as led_to}
use Rattle.fair_rounds.specs.Meaning.{StandsFor}
use Rattle.fair_rounds.specs.Told.{IsAnswer}
use Rattle.fair_rounds.specs.declared.evading.Evasion.{Evasion}
use Rattle.fair_rounds.proofs.Meaning.{comes-means, shortest-means}
use Rattle.breadth_first.specs.System.{System, IsEquality}
use Rattle.breadth_first.specs.Paths.{MustCome}
use Rattle.breadth_first.specs.Answer.{IsAvoided, Holds, IsFirstMissed}
use Rattle.breadth_first.specs.Progress.{AreEdges, IsOpened, MayAvoid, MayLose, MayMiss}
use Rattle.breadth_first.specs.declared.answer.Want.{Want}
use Rattle.breadth_first.specs.declared.answer.Want.TheVariants.{Ever, Must, MustAfter}
use Rattle.breadth_first.specs.declared.answer.Missed.{Missed}
use Rattle.breadth_first.specs.declared.answer.Missed.TheVariants.{Lost, Avoided}
use Rattle.breadth_first.proofs.Order.{cases}
use Rattle.breadth_first.proofs.Endings.{front-apart}
use Rattle.breadth_first.proofs.Counts.{mark-of, marks-many}
use Rattle.breadth_first.proofs.Numbers.{edge-ends, numbered}

module _ {S : Type 0} (g : System S) (law : IsEquality g.same) (states : List S) (begun : IsOpened g states) where
  -- each state has one place
  one-place : (a b : ℕ) (s : S) → slice_get states a ≡ Some s → slice_get states b ≡ Some s → a ≡ b
  one-place a b s here there = by (cases_lt a b) (cases_lt b a)
    where
      apart : (i j : ℕ) → i < j → slice_get states i ≡ Some s → slice_get states j ≡ Some s → ⊥
      apart i j l at to =
          front-apart g law begun.upto states begun.front i j s l (slice_get_within states j s to) (get_or_from_slice_get states i s s at ∙ sym (get_or_from_slice_get states j s s to))

      by : (a < b) ⊎ (b ≤ a) → (b < a) ⊎ (a ≤ b) → a ≡ b
      by (inl l) _ = absurd (apart a b l here there)
      by (inr l) (inl m) = absurd (apart b a m there here)
      by (inr l) (inr m) = omega (arith, l, m)

  -- the start alone is marked
  pub start-marks : slice_get states 0 ≡ Some g.start → (n : ℕ) → n ≡ length states → set (replicate n false) 0 true ≡ map (g.same g.start) states
  start-marks at n many = ap (λ k. set (replicate k false) 0 true) many ∙ whole states at (λ i s l to e. absurd (omega (arith, l, one-place i 0 s to (at ∙ ap Some e))))
    where
      differ : (s : S) → (g.start ≡ s → ⊥) → false ≡ g.same g.start s
      differ s apart = by (cases (g.same g.start s))
        where
          by : (g.same g.start s ≡ true) ⊎ (g.same g.start s ≡ false) → false ≡ g.same g.start s
          by (inl e) = absurd (apart ((law g.start s).0 e))
          by (inr e) = sym e

      others : (xs : List S) → ((i : ℕ) (s : S) → slice_get xs i ≡ Some s → g.start ≡ s → ⊥) → replicate (length xs) false ≡ map (g.same g.start) xs
      others [] apart = refl
      others (x ∷ xs) apart = ap (λ b. b ∷ replicate (length xs) false) (differ x (apart 0 x refl)) ∙ ap (λ l. g.same g.start x ∷ l) (others xs (λ i s to. apart (suc i) s to))

      whole : (xs : List S) → slice_get xs 0 ≡ Some g.start → ((i : ℕ) (s : S) → 0 < i → slice_get xs i ≡ Some s → g.start ≡ s → ⊥) → set (replicate (length xs) false) 0 true ≡ map (g.same g.start) xs
      whole [] at apart = cc
      whole (x ∷ xs) at apart =
          ap (λ b. b ∷ replicate (length xs) false) (sym ((law g.start x).1 (sym (same_Some x g.start at)))) ∙ ap (λ l. g.same g.start x ∷ l) (others xs (λ i s to. apart (suc i) s (omega arith) to))

  module _ (ends : List ℕ) (are : AreEdges g states (length states * g.choices) ends) (t : ℕ) (goals : List Bool) (passed : goals ≡ map (g.test t) states) (first : S → Bool) (firsts : List Bool) (firsts_are : firsts ≡ map first states) where
    -- the state with a number
    abbrev state_of : ℕ → S
    state_of n = get_or states n g.start

    inside : (at : ℕ) → at < length goals → slice_get states at ≡ Some (state_of at)
    inside at l = slice_get-get_or states at g.start (omega (arith, l, marks-many (g.test t) states goals passed))

    -- nodes stand for the states
    stands : StandsFor g.next (g.test t) first g.choices ends goals firsts state_of
    stands = record {
      edges = subst (AreNumbered g.choices ends) (sym (marks-many (g.test t) states goals passed)) (numbered g states ends are);
      leads = λ at c l m. get_or_from_slice_get states (end_of g.choices ends at c) (g.next (state_of at) c) g.start (edge-ends g states ends are at c (state_of at) (inside at l) m);
      passed = λ at l. mark-of (g.test t) states goals passed at (state_of at) (inside at l);
      begun = λ at l. mark-of first states firsts firsts_are at (state_of at) (inside at l);
      apart = λ a b l m e. one-place a b (state_of a) (inside a l) (inside b m ∙ ap Some (sym e));
    }

    -- what is told of nodes holds of the states
    pub answer-means : slice_get states 0 ≡ Some g.start → (most : ℕ) → most ≡ length states → (evasion : Option Evasion) → IsAnswer g.choices ends goals firsts 0 evasion
        → MatchOption evasion (MustCome g first t most) (λ e. IsAvoided g first t e.path.items e.cycle.items)
    answer-means at most many None is =
        let few : 0 < length goals = omega (arith, slice_get_within states 0 g.start at, marks-many (g.test t) states goals passed) in
        let start : state_of 0 ≡ g.start = get_or_from_slice_get states 0 g.start g.start at in
        let long : length goals ≡ most = omega (arith, many, marks-many (g.test t) states goals passed) in
        subst (λ s. (path : List ℕ) → All (λ c. c < g.choices) path → first (led_to g.next s path) ≡ true → MustWithin g.next (g.test t) g.choices (led_to g.next s path) most) start
        (subst (λ n. AlwaysComes g.next (g.test t) g.choices first (state_of 0) n) long (comes-means g.next (g.test t) first g.choices ends goals firsts state_of stands 0 (length goals) few is))
    answer-means at most many (Some e) is =
        let few : 0 < length goals = omega (arith, slice_get_within states 0 g.start at, marks-many (g.test t) states goals passed) in
        let start : state_of 0 ≡ g.start = get_or_from_slice_get states 0 g.start g.start at in
        subst (λ s. IsShortest g.next (g.test t) g.choices first s e.path.items e.cycle.items) start
        (shortest-means g.next (g.test t) first g.choices ends goals firsts state_of stands 0 e.path.items e.cycle.items few is)

-- ---- what one of the wants comes to

module _ {S : Type 0} (g : System S) (states : List S) (most : ℕ) where
  pub lost-misses : (t number : ℕ) (missed : Option Missed) → MayLose g states t number missed → MayMiss g states most (Ever t) number missed
  lost-misses t number None can = can
  lost-misses t number (Some (Lost lost)) is = is
  lost-misses t number (Some (Avoided avoided)) is = absurd is

  pub avoided-misses : IsEquality g.same → (t number : ℕ) (missed : Option Missed) → MayAvoid g most (g.same g.start) t number missed → MayMiss g states most (Must t) number missed
  avoided-misses law t number None comes = comes [] (All-nil (λ c. c < g.choices)) ((law g.start g.start).1 refl)
  avoided-misses law t number (Some (Lost lost)) is = absurd is
  avoided-misses law t number (Some (Avoided avoided)) is = is

  pub after-misses : (t number : ℕ) (missed : Option Missed) → MayAvoid g most (g.first t) t number missed → MayMiss g states most (MustAfter t) number missed
  after-misses t number None comes = comes
  after-misses t number (Some (Lost lost)) is = absurd is
  after-misses t number (Some (Avoided avoided)) is = is

  -- the first that is missed
  pub is-first : (wants : List Want) (number : ℕ) (want : Want) → slice_get wants number ≡ Some want → (missed : Missed) → MayMiss g states most want number (Some missed)
      → ((i : ℕ) (w : Want) → i < number → slice_get wants i ≡ Some w → Holds g most w) → IsFirstMissed g states most wants missed
  is-first wants number want at missed (is, misses) earlier = record {
    want = want;
    there = ap (slice_get wants) is ∙ at;
    misses = misses;
    earlier = λ i w l to. earlier i w (omega (arith, l, is)) to;
  }
