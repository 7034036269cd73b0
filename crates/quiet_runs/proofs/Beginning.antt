-- The runs that steps begin: how many they are, where they lead, and that each hart's next one
-- begins in time.
use Rattle.std.proofs.Common.{◌≡◌, ℕ, zero, suc, ◌+◌, ◌*◌, ◌<◌, ◌≤◌, ◌⊎◌, inl, inr, ◌==◌, Bool, true, false, if◌then◌else◌, List, [], ◌∷◌, ◌++◌, length, take, drop, All, refl, sym, ◌∙◌, ap, subst, arith, suc-mul, zero-mul, length-take, length-drop, take-append-drop, append_assoc}
use Rattle.std.proofs.lemmas.Bool.{cases_eq, eq-eqb, ne_eqb}
use Rattle.std.proofs.lemmas.List.Elements.{All-cons, All-nil, All-take, All-drop, All-from_recursion, recursion_from_All, Contains-append_left, Contains-append_right}
use Rattle.std.proofs.lemmas.List.Folds.{concat-append}
use Rattle.std.specs.List.{concat, Contains, AllByRecursion as Each}
use Rattle.fair_rounds.specs.Rounds.{IsRound, after}
use Rattle.machine_state.specs.State.{State}
use Rattle.quiet_runs.specs.Runs.{after_step, after_runs}
use Rattle.quiet_runs.specs.Begun.{UnderWay, stepped, on_step, begun_by, begun}
use Rattle.quiet_runs.specs.RoundLaws.{AreShort}
use Rattle.quiet_runs.proofs.Lags.{each-append}
use Rattle.quiet_runs.proofs.Running.{runs-none, runs-more}

module _ (more : State → ℕ → ℕ) where
  -- ---- what they are

  -- all of such harts
  pub begun-of : (which : ℕ → Type 0) (u : UnderWay) (harts : List ℕ) → Each which harts
      → Each which (begun more u harts)
  begun-of which u [] all = tt
  begun-of which u (h ∷ harts) all = on (u.left h) (begun-of which (on_step more u h) harts all.1)
    where
      on : (n : ℕ) → Each which (begun more (on_step more u h) harts)
          → Each which (begun_by n h ++ begun more (on_step more u h) harts)
      on zero rest = (all.0, rest)
      on (suc n) rest = rest

  -- no more than the steps
  pub begun-few : (u : UnderWay) (harts : List ℕ) → length (begun more u harts) ≤ length harts
  begun-few u [] = omega arith
  begun-few u (h ∷ harts) = on (u.left h) (begun-few (on_step more u h) harts)
    where
      on : (n : ℕ) → length (begun more (on_step more u h) harts) ≤ length harts
          → length (begun_by n h ++ begun more (on_step more u h) harts) ≤ length (h ∷ harts)
      on zero rest = omega (arith, rest)
      on (suc n) rest = omega (arith, rest)

  -- they lead to the state of what is under way
  pub begun-state : (u : UnderWay) (harts : List ℕ)
      → (after (on_step more) u harts).state ≡ after_runs more u.state (begun more u harts)
  begun-state u [] = sym (runs-none more u.state)
  begun-state u (h ∷ harts) = begun-state (on_step more u h) harts ∙ on (u.left h)
    where
      rest : ℕ → List ℕ
      rest n = begun more (stepped more u h n) harts

      on : (n : ℕ)
          → after_runs more (stepped more u h n).state (rest n) ≡ after_runs more u.state
          (begun_by n h ++ rest n)
      on zero = sym (runs-more more u.state h (begun more (stepped more u h zero) harts))
      on (suc n) = refl

  -- those of steps after steps
  pub begun-append : (u : UnderWay) (gs hs : List ℕ)
      → begun more u (gs ++ hs) ≡ begun more u gs ++ begun more (after (on_step more) u gs) hs
  begun-append u [] hs = refl
  begun-append u (g ∷ gs) hs =
      ap (λ (runs : List ℕ). begun_by (u.left g) g ++ runs) (begun-append (on_step more u g) gs hs)
      ∙ sym (append_assoc (begun_by (u.left g) g) (begun more (on_step more u g) gs)
      (begun more (after (on_step more) u (g ∷ gs)) hs))

  -- ---- when a hart's next one begins

  -- a step of another hart leaves as many to a hart
  left-other : (u : UnderWay) (g h n : ℕ) → (h ≡ g → ⊥) → (stepped more u g n).left h ≡ u.left h
  left-other u g h zero apart =
      ap (λ (b : Bool). if b then more (after_step u.state g) g else u.left h) (ne_eqb h g apart)
  left-other u g h (suc n) apart = ap (λ (b : Bool). if b then n else u.left h) (ne_eqb h g apart)

  -- one of its own leaves one less
  left-own : (u : UnderWay) (h n : ℕ) → (stepped more u h (suc n)).left h ≡ n
  left-own u h n = ap (λ (b : Bool). if b then n else u.left h) (eq-eqb h h refl)

  -- steps begin a run of the hart, or leave fewer to it
  abbrev OrFewer : UnderWay → ℕ → List ℕ → ℕ → Type 0
  OrFewer u h harts most =
      Contains (begun more u harts) h ⊎ ((after (on_step more) u harts).left h < most)

  -- whatever the step in front
  or-later : (u : UnderWay) (g h : ℕ) (harts : List ℕ) (most : ℕ)
      → OrFewer (on_step more u g) h harts most → OrFewer u h (g ∷ harts) most
  or-later u g h harts most (inl begins) =
      inl (Contains-append_right (begun_by (u.left g) g)
      (begun more (on_step more u g) harts) h begins)
  or-later u g h harts most (inr fewer) = inr fewer

  -- one of its own begins one where none are left
  or-now : (u : UnderWay) (h : ℕ) (harts : List ℕ) (most : ℕ) → u.left h ≡ 0
      → OrFewer u h (h ∷ harts) most
  or-now u h harts most none =
      inl (Contains-append_left (begun_by (u.left h) h) (begun more (on_step more u h) harts) h
      (subst (λ (n : ℕ). Contains (begun_by n h) h) (sym none) (0, omega arith, refl)))

  or-more : (u : UnderWay) (h : ℕ) (harts : List ℕ) (n m : ℕ) → n ≤ m → OrFewer u h harts n
      → OrFewer u h harts m
  or-more u h harts n m l (inl begins) = inl begins
  or-more u h harts n m l (inr fewer) = inr (omega (arith, l, fewer))

  -- with one of its own in front they leave fewer than before, where the others leave no more
  or-own : (u : UnderWay) (h : ℕ) (harts : List ℕ)
      → OrFewer (on_step more u h) h harts (suc ((on_step more u h).left h))
      → OrFewer u h (h ∷ harts) (u.left h)
  or-own u h harts rest = on (u.left h) refl
    where
      on : (n : ℕ) → u.left h ≡ n → OrFewer u h (h ∷ harts) (u.left h)
      on zero none = or-now u h harts (u.left h) none
      on (suc n) some =
          let one : suc ((on_step more u h).left h) ≡ u.left h =
          ap (λ (k : ℕ). suc ((stepped more u h k).left h)) some
          ∙ (ap suc (left-own u h n) ∙ sym some) in
          or-later u h h harts (u.left h) (subst (OrFewer (on_step more u h) h harts) one rest)

  -- with one of another hart in front they do as the others
  or-other : (u : UnderWay) (g h : ℕ) (harts : List ℕ) (of : ℕ → ℕ) → (h ≡ g → ⊥)
      → OrFewer (on_step more u g) h harts (of ((on_step more u g).left h))
      → OrFewer u h (g ∷ harts) (of (u.left h))
  or-other u g h harts of apart rest =
      or-later u g h harts (of (u.left h))
      (subst (λ (n : ℕ). OrFewer (on_step more u g) h harts (of n))
      (left-other u g h (u.left g) apart) rest)

  -- none leave more than before
  or-same : (u : UnderWay) (h : ℕ) (harts : List ℕ) → OrFewer u h harts (suc (u.left h))
  or-same u h [] = inr (omega arith)
  or-same u h (g ∷ harts) = on (cases_eq h g) (or-same (on_step more u g) h harts)
    where
      on : (h ≡ g) ⊎ (h ≡ g → ⊥)
          → OrFewer (on_step more u g) h harts (suc ((on_step more u g).left h))
          → OrFewer u h (g ∷ harts) (suc (u.left h))
      on (inl is) rest =
          subst (λ (f : ℕ). OrFewer u h (f ∷ harts) (suc (u.left h))) is
          (or-more u h (h ∷ harts) (u.left h) (suc (u.left h)) (omega arith)
          (or-own u h harts
          (subst (λ (f : ℕ). OrFewer (on_step more u f) h harts (suc ((on_step more u f).left h)))
          (sym is) rest)))
      on (inr apart) rest = or-other u g h harts suc apart rest

  -- those among which is one of its own leave fewer
  or-fewer : (u : UnderWay) (h : ℕ) (harts : List ℕ) → Contains harts h
      → OrFewer u h harts (u.left h)
  or-fewer u h [] (k, l, e) = absurd (omega (arith, l))
  or-fewer u h (g ∷ harts) (zero, l, is) =
      subst (λ (f : ℕ). OrFewer u h (f ∷ harts) (u.left h)) (sym is)
      (or-own u h harts (or-same (on_step more u h) h harts))
  or-fewer u h (g ∷ harts) (suc k, l, e) =
      on (cases_eq h g) (or-fewer (on_step more u g) h harts (k, omega (arith, l), e))
    where
      on : (h ≡ g) ⊎ (h ≡ g → ⊥) → OrFewer (on_step more u g) h harts ((on_step more u g).left h)
          → OrFewer u h (g ∷ harts) (u.left h)
      on (inl is) rest =
          subst (λ (f : ℕ). OrFewer u h (f ∷ harts) (u.left h)) is
          (or-own u h harts (or-same (on_step more u h) h harts))
      on (inr apart) rest = or-other u g h harts (λ n. n) apart rest

  -- more rounds than steps are left to a hart begin a run of it
  pub begun-within : (u : UnderWay) (h : ℕ) (rounds : List (List ℕ)) → u.left h < length rounds
      → Each (λ round. Contains round h) rounds → Contains (begun more u (concat rounds)) h
  begun-within u h [] l all = absurd (omega (arith, l))
  begun-within u h (round ∷ rounds) l all =
      subst (λ (runs : List ℕ). Contains runs h) (sym (begun-append u round (concat rounds)))
      (on (or-fewer u h round all.0)
      (λ fewer. begun-within (after (on_step more) u round) h rounds
      (omega (arith, l, fewer)) all.1))
    where
      first : List ℕ
      first = begun more u round

      rest : List ℕ
      rest = begun more (after (on_step more) u round) (concat rounds)

      on : OrFewer u h round (u.left h)
          → ((after (on_step more) u round).left h < u.left h → Contains rest h)
          → Contains (first ++ rest) h
      on (inl begins) later = Contains-append_left first rest h begins
      on (inr fewer) later = Contains-append_right first rest h (later fewer)

  -- ---- rounds

  module _ (most : ℕ) (short : AreShort most more) where
    -- no more than so many steps are left to each hart
    abbrev pub IsShort : UnderWay → Type 0
    IsShort u = (h : ℕ) → u.left h ≤ most

    short-step : (u : UnderWay) (g n : ℕ) → IsShort u → n ≤ most → IsShort (stepped more u g n)
    short-step u g n all l h = on n l (h == g)
      where
        with_short : (m : ℕ) → m ≤ most → (b : Bool) → (if b then m else u.left h) ≤ most
        with_short m few true = few
        with_short m few false = all h

        on : (n : ℕ) → n ≤ most → (b : Bool) → (stepped more u g n).left h ≤ most
        on zero l b =
            with_short (more (after_step u.state g) g) (short (after_step u.state g) g) (h == g)
        on (suc n) l b = with_short n (omega (arith, l)) (h == g)

    pub short-steps : (u : UnderWay) (harts : List ℕ) → IsShort u
        → IsShort (after (on_step more) u harts)
    short-steps u [] all = all
    short-steps u (g ∷ harts) all =
        short-steps (on_step more u g) harts (short-step u g (u.left g) all (all g))

    -- rounds of the runs that steps begin
    pub record BegunRounds (count n : ℕ) (u : UnderWay) (harts : List ℕ) : Type 0 where
      pub rounds : List (List ℕ)
      pub many : length rounds ≡ n
      pub are : All (IsRound count) rounds
      pub parts : concat rounds ≡ begun more u harts

    -- the choices of rounds
    pub round-choices : (count : ℕ) (rounds : List (List ℕ)) → Each (IsRound count) rounds
        → Each (λ (c : ℕ). c < count) (concat rounds)
    round-choices count [] all = tt
    round-choices count (round ∷ rounds) all =
        let is = all.0 in
        each-append (λ (c : ℕ). c < count) round (concat rounds)
        (recursion_from_All (λ (c : ℕ). c < count) round is.choices)
        (round-choices count rounds all.1)

    each-contains : (count h : ℕ) → h < count → (rounds : List (List ℕ))
        → Each (IsRound count) rounds → Each (λ round. Contains round h) rounds
    each-contains count h l [] all = tt
    each-contains count h l (round ∷ rounds) all =
        let is = all.0 in (is.each h l, each-contains count h l rounds all.1)

    -- enough rounds of steps begin a round of runs
    round-begun : (count : ℕ) (u : UnderWay) (rounds : List (List ℕ)) → IsShort u
        → length rounds ≡ suc most → Each (IsRound count) rounds
        → IsRound count (begun more u (concat rounds))
    round-begun count u rounds all long are = record {
      choices = All-from_recursion (λ (c : ℕ). c < count) (begun more u (concat rounds))
          (begun-of (λ (c : ℕ). c < count) u (concat rounds) (round-choices count rounds are));
      each = λ h l. let few =
          all h in begun-within u h rounds (omega (arith, few, long))
          (each-contains count h l rounds are);
    }

    -- so many times as many begin so many
    pub rounds-begun : (count n : ℕ) (u : UnderWay) (rounds : List (List ℕ)) → IsShort u
        → length rounds ≡ n * suc most → All (IsRound count) rounds
        → BegunRounds count n u (concat rounds)
    rounds-begun count zero u [] all long are =
        record { rounds = []; many = refl; are = All-nil (IsRound count); parts = refl }
    rounds-begun count zero u (round ∷ rounds) all long are =
        absurd (omega (arith, long, zero-mul (suc most)))
    rounds-begun count (suc n) u rounds all long are =
        let size = suc most in
        let enough : suc n * size ≡ n * size + size = suc-mul n size in
        let front = take size rounds in
        let back = drop size rounds in
        let first = begun more u (concat front) in
        let rest =
        rounds-begun count n (after (on_step more) u (concat front)) back
        (short-steps u (concat front) all)
        (omega (arith, long, enough, length-drop size rounds))
        (All-drop (IsRound count) size rounds are) in
        let whole : concat front ++ concat back ≡ concat rounds =
        sym (concat-append front back) ∙ ap concat (take-append-drop size rounds) in
        record {
          rounds = first ∷ rest.rounds;
          many = ap suc rest.many;
          are = All-cons (IsRound count) first rest.rounds
              (round-begun count u front all (omega (arith, long, enough, length-take size rounds))
              (recursion_from_All (IsRound count) front (All-take (IsRound count) size rounds are)))
              rest.are;
          parts = ap (λ (runs : List ℕ). first ++ runs) rest.parts
              ∙ (sym (begun-append u (concat front) (concat back)) ∙ ap (begun more u) whole);
        }
