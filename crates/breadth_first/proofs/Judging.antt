-- Marks of states, list by list.
use Rattle.std.proofs.Common.{◌≡◌, ℕ, zero, suc, ◌+◌, ◌<◌, ◌≤◌, Bool, List, [], ◌∷◌, ◌++◌, length, map, take, drop, replicate, set, get_or, slice_get, Some, All, refl, sym, ap, ◌∙◌, arith, append_assoc}
use Rattle.std.proofs.lemmas.List.{length-map, length-append, map-append, get_or-map, take-append-le, take_all}
use Rattle.std.proofs.lemmas.List.Elements.{All-append, All-cons, All-head, All-nil, All-tail}
use Rattle.std.proofs.lemmas.Option.{slice_get-map, same_Some}
use Rattle.std.specs.Option.{option_map}
use Rattle.breadth_first.specs.System.{System}
use Rattle.breadth_first.specs.Front.{Front}
use Rattle.breadth_first.specs.Kept.{Keeps}
use Rattle.breadth_first.specs.Marks.{judged, is_as, number_of, goal_of, first_of, firsts_of, tests_of}
use Rattle.breadth_first.specs.declared.answer.Want.{Want}
use Rattle.breadth_first.specs.declared.answer.Want.TheVariants.{Ever, Must, MustAfter}
use Rattle.breadth_first.specs.declared.asked.Test.{Test}
use Rattle.breadth_first.specs.declared.asked.Test.TheVariants.{Passes, IsFirst}
use Rattle.breadth_first.proofs.Keys.{keeps-map}
use Rattle.breadth_first.proofs.Counts.{take-next}
use Rattle.breadth_first.proofs.Fronts.{front-get}

-- ---- a loop that makes something else of each place

module _ {A B : Type 0} (f h : A → B) where
  mixed-step : (d : A) (tests : List A) (p : ℕ) → p < length tests → set (map h (take p tests) ++ map f (drop p tests)) p (h (get_or tests p d)) ≡ map h (take (suc p) tests) ++ map f (drop (suc p) tests)
  mixed-step d [] p within = absurd (omega (arith, within))
  mixed-step d (t ∷ ts) zero within = refl
  mixed-step d (t ∷ ts) (suc p) within = ap (λ l. h t ∷ l) (mixed-step d ts p (omega (arith, within)))

  mixed-at : (d : A) (e : B) (tests : List A) (p : ℕ) → p < length tests → get_or (map h (take p tests) ++ map f (drop p tests)) p e ≡ f (get_or tests p d)
  mixed-at d e [] p within = absurd (omega (arith, within))
  mixed-at d e (t ∷ ts) zero within = refl
  mixed-at d e (t ∷ ts) (suc p) within = mixed-at d e ts p (omega (arith, within))

  mixed-many : (tests : List A) (p : ℕ) → length (map h (take p tests) ++ map f (drop p tests)) ≡ length tests
  mixed-many [] zero = refl
  mixed-many [] (suc p) = refl
  mixed-many (t ∷ ts) zero = ap suc (length-map ts f)
  mixed-many (t ∷ ts) (suc p) = ap suc (mixed-many ts p)

  mixed-all : (tests : List A) (p : ℕ) → length tests ≤ p → map h (take p tests) ++ map f (drop p tests) ≡ map h tests
  mixed-all [] zero past = refl
  mixed-all [] (suc p) past = refl
  mixed-all (t ∷ ts) zero past = absurd (omega (arith, past))
  mixed-all (t ∷ ts) (suc p) past = ap (λ l. h t ∷ l) (mixed-all ts p (omega (arith, past)))

-- ---- one state more

module _ {S : Type 0} (g : System S) (tests : List Test) (states : List S) (s : S) where
  -- its marks were added for the first `place` tests
  abbrev pub marked : ℕ → List (List Bool)
  marked place = judged g (take place tests) (states ++ s ∷ []) ++ judged g (drop place tests) states

  pub marked-many : (place : ℕ) → length (marked place) ≡ length tests
  marked-many place = mixed-many (λ t. map (is_as g t) states) (λ t. map (is_as g t) (states ++ s ∷ [])) tests place

  pub marked-all : (place : ℕ) → length tests ≤ place → marked place ≡ judged g tests (states ++ s ∷ [])
  marked-all place past = mixed-all (λ t. map (is_as g t) states) (λ t. map (is_as g t) (states ++ s ∷ [])) tests place past

  pub marked-step : (place : ℕ) (t : Test) (lists news : List (List Bool)) (passes : Bool) → place < length tests → lists ≡ marked place → passes ≡ is_as g (get_or tests place t) s
      → news ≡ set lists place (get_or lists place [] ++ passes ∷ []) → news ≡ marked (place + 1)
  marked-step place t lists news passes within are is then =
      then ∙ by are is ∙ mixed-step f h t tests place within ∙ ap marked next
    where
      f : Test → List Bool
      f u = map (is_as g u) states

      h : Test → List Bool
      h u = map (is_as g u) (states ++ s ∷ [])

      next : suc place ≡ place + 1
      next = omega arith

      one : get_or (marked place) place [] ++ is_as g (get_or tests place t) s ∷ [] ≡ h (get_or tests place t)
      one = ap (λ l. l ++ is_as g (get_or tests place t) s ∷ []) (mixed-at f h t [] tests place within) ∙ sym (map-append (is_as g (get_or tests place t)) states (s ∷ []))

      by : lists ≡ marked place → passes ≡ is_as g (get_or tests place t) s → set lists place (get_or lists place [] ++ passes ∷ []) ≡ set (marked place) place (h (get_or tests place t))
      by are is = ap (λ l. set l place (get_or l place [] ++ passes ∷ [])) are ∙ ap (λ b. set (marked place) place (get_or (marked place) place [] ++ b ∷ [])) is ∙ ap (λ l. set (marked place) place l) one

-- the mark that a space gives
pub mark-is : {K S : Type 0} {g h : System S} {held holds : K → Type 0} {means stands : K → S} → Keeps g held means h holds stands → (t : Test) (key : K) → held key → (passes : Bool) → passes ≡ is_as h t (stands key) → passes ≡ is_as g t (means key)
mark-is {g = g} {stands = stands} keeps t key at passes is = is ∙ ap (λ s. is_as s t (stands key)) keeps.system ∙ ap (is_as g t) (keeps.stays key at)

-- ---- lists

-- one list more with no state
pub empty_more : {X : Type 0} (n : ℕ) (e : X) (xs ys : List X) → xs ≡ replicate n e → ys ≡ xs ++ e ∷ [] → ys ≡ replicate (n + 1) e
empty_more n e xs ys are is = is ∙ ap (λ l. l ++ e ∷ []) are ∙ sym (by n) ∙ ap (λ k. replicate k e) next
  where
    next : suc n ≡ n + 1
    next = omega arith

    by : (k : ℕ) → replicate (suc k) e ≡ replicate k e ++ e ∷ []
    by zero = refl
    by (suc k) = ap (λ l. e ∷ l) (by k)

-- with no state
pub empties : {X : Type 0} (tests : List Test) (n : ℕ) (e : X) → n ≡ length tests → replicate n e ≡ map (λ t. e) tests
empties tests n e many = ap (λ k. replicate k e) many ∙ by tests
  where
    by : (xs : List Test) → replicate (length xs) e ≡ map (λ t. e) xs
    by [] = refl
    by (x ∷ xs) = ap (λ l. e ∷ l) (by xs)

pub judged-none : {S : Type 0} (g : System S) (tests : List Test) → replicate (length tests) [] ≡ judged g tests []
judged-none g [] = refl
judged-none g (t ∷ ts) = ap (λ l. [] ∷ l) (judged-none g ts)

-- lists of tests by their numbers
judged-numbers : {S : Type 0} (g : System S) (tests : List ℕ) (states : List S) → judged g (map Passes tests) states ≡ map (λ t. map (g.test t) states) tests
judged-numbers g [] states = refl
judged-numbers g (t ∷ ts) states = ap (λ l. map (g.test t) states ∷ l) (judged-numbers g ts states)

-- the list of such a test
pub list-in : {S : Type 0} (g : System S) (tests : List ℕ) (states : List S) (lists : List (List Bool)) (i : ℕ) (l : List Bool) → lists ≡ judged g (map Passes tests) states → i < length tests → l ≡ get_or lists i l → l ≡ map (g.test (get_or tests i 0)) states
list-in g tests states lists i l are within is = is ∙ ap (λ x. get_or x i l) (are ∙ judged-numbers g tests states) ∙ get_or-map (λ t. map (g.test t) states) tests i 0 l within

-- as many lists as tests
pub lists-many : {S : Type 0} (g : System S) (tests : List Test) (states : List S) (lists : List (List Bool)) → lists ≡ judged g tests states → length lists ≡ length tests
lists-many g tests states lists are = ap length are ∙ length-map tests (λ t. map (is_as g t) states)

-- at another moment
pub judged-keeps : {K S : Type 0} {g h : System S} {held holds : K → Type 0} {means stands : K → S} → Keeps g held means h holds stands → (keys : List K) → ((k : ℕ) (d : K) → k < length keys → held (get_or keys k d)) → (tests : List Test) → judged h tests (map stands keys) ≡ judged g tests (map means keys)
judged-keeps {g = g} {stands = stands} keeps keys all tests = ap (λ s. judged s tests (map stands keys)) keeps.system ∙ ap (judged g tests) (keeps-map keeps keys all)

-- of a list the front that another one has
pub front-first : {X : Type 0} {xs ys : List X} (n : ℕ) → Front xs ys → n ≤ length xs → take n ys ≡ take n xs
front-first {xs = xs} n a l = ap (take n) a.is ∙ take-append-le n xs a.rest l

-- the marks of the next state
pub judged-next : {K S : Type 0} {g h : System S} {held holds : K → Type 0} {means stands : K → S} → Keeps g held means h holds stands → (keys : List K) (tests : List Test) (i : ℕ) (key : K) → slice_get keys i ≡ Some key → held key → (lists news : List (List Bool))
    → lists ≡ judged g tests (take i (map means keys)) → ((states : List S) → lists ≡ judged h tests states → news ≡ judged h tests (states ++ stands key ∷ [])) → news ≡ judged g tests (take (i + 1) (map means keys))
judged-next {g = g} {h = h} {means = means} {stands = stands} keeps keys tests i key at there lists news are judge =
    let states = map means keys in
    let here : lists ≡ judged h tests (take i states) = are ∙ ap (λ s. judged s tests (take i states)) (sym keeps.system) in
    let is : slice_get states i ≡ Some (means key) = slice_get-map means keys i ∙ ap (option_map means) at in
    let more : suc i ≡ i + 1 = omega arith in
    judge (take i states) here
    ∙ ap (λ s. judged s tests (take i states ++ stands key ∷ [])) keeps.system
    ∙ ap (λ s. judged g tests (take i states ++ s ∷ [])) (keeps.stays key there)
    ∙ ap (judged g tests) (sym (take-next states i (means key) is) ∙ ap (λ n. take n states) more)

-- ---- by what states are judged for wants

-- what is mapped, one more of them
pub mapped-next : {A B : Type 0} (f : A → B) (xs : List A) (old before now : List B) (i : ℕ) (x : A) → slice_get xs i ≡ Some x → before ≡ old ++ map f (take i xs) → now ≡ before ++ f x ∷ [] → now ≡ old ++ map f (take (i + 1) xs)
mapped-next f xs old before now i x at are is =
    let more : suc i ≡ i + 1 = omega arith in
    is ∙ ap (λ l. l ++ f x ∷ []) are ∙ append_assoc old (map f (take i xs)) (f x ∷ [])
    ∙ ap (λ l. old ++ l) (sym (map-append f (take i xs) (x ∷ [])) ∙ ap (map f) (sym (take-next xs i x at) ∙ ap (λ n. take n xs) more))

pub mapped-all : {A B : Type 0} (f : A → B) (xs : List A) (old now : List B) (i : ℕ) → length xs ≤ i → now ≡ old ++ map f (take i xs) → now ≡ old ++ map f xs
mapped-all f xs old now i l are = are ∙ ap (λ ys. old ++ map f ys) (take_all i xs l)

firsts-append : (xs ys : List Want) → firsts_of (xs ++ ys) ≡ firsts_of xs ++ firsts_of ys
firsts-append [] ys = refl
firsts-append (x ∷ xs) ys = ap (λ l. first_of x ++ l) (firsts-append xs ys) ∙ sym (append_assoc (first_of x) (firsts_of xs) (firsts_of ys))

append-nil : {X : Type 0} (xs : List X) → xs ++ [] ≡ xs
append-nil [] = refl
append-nil (x ∷ xs) = ap (λ l. x ∷ l) (append-nil xs)

pub place-first : (wants : List Want) → length wants ≡ length wants + length (firsts_of (take 0 wants))
place-first wants = omega arith

-- of one want more
pub firsts-next : (wants : List Want) (i : ℕ) (want : Want) → slice_get wants i ≡ Some want → firsts_of (take (i + 1) wants) ≡ firsts_of (take i wants) ++ first_of want
firsts-next wants i want at =
    let more : i + 1 ≡ suc i = omega arith in
    ap (λ n. firsts_of (take n wants)) more ∙ ap firsts_of (take-next wants i want at) ∙ firsts-append (take i wants) (want ∷ [])
    ∙ ap (λ l. firsts_of (take i wants) ++ l) (append-nil (first_of want))

pub firsts-added : (wants : List Want) (old before now : List Test) (i : ℕ) (want : Want) → slice_get wants i ≡ Some want → before ≡ old ++ firsts_of (take i wants) → now ≡ before ++ first_of want → now ≡ old ++ firsts_of (take (i + 1) wants)
firsts-added wants old before now i want at are is =
    is ∙ ap (λ l. l ++ first_of want) are ∙ append_assoc old (firsts_of (take i wants)) (first_of want) ∙ ap (λ l. old ++ l) (sym (firsts-next wants i want at))

pub firsts-all : (wants : List Want) (old now : List Test) (i : ℕ) → length wants ≤ i → now ≡ old ++ firsts_of (take i wants) → now ≡ old ++ firsts_of wants
firsts-all wants old now i l are = are ∙ ap (λ ws. old ++ firsts_of ws) (take_all i wants l)

-- how many lists lie before that of the first states of the next want
pub place-next : (wants : List Want) (i place : ℕ) (want : Want) → slice_get wants i ≡ Some want → place ≡ length wants + length (firsts_of (take i wants)) → place + length (first_of want) ≡ length wants + length (firsts_of (take (i + 1) wants))
place-next wants i place want at is = omega (arith, is, ap length (firsts-next wants i want at), length-append (firsts_of (take i wants)) (first_of want))

slice_get-behind : {X : Type 0} (xs ys : List X) (n i : ℕ) → n ≡ length xs + i → slice_get (xs ++ ys) n ≡ slice_get ys i
slice_get-behind [] ys n i e = ap (slice_get ys) (by n i e)
  where
    by : (n i : ℕ) → n ≡ 0 + i → n ≡ i
    by n i e = omega (arith, e)
slice_get-behind (x ∷ xs) ys zero i e = absurd (omega (arith, e))
slice_get-behind (x ∷ xs) ys (suc n) i e = slice_get-behind xs ys n i (omega (arith, e))

first-at : (wants : List Want) (i t : ℕ) → slice_get wants i ≡ Some (MustAfter t) → slice_get (firsts_of wants) (length (firsts_of (take i wants))) ≡ Some (IsFirst t)
first-at [] i t at = cc
first-at (w ∷ ws) zero t at = ap (λ v. slice_get (first_of v ++ firsts_of ws) 0) (same_Some w (MustAfter t) at)
first-at (w ∷ ws) (suc i) t at =
    slice_get-behind (first_of w) (firsts_of ws) (length (first_of w ++ firsts_of (take i ws))) (length (firsts_of (take i ws))) (length-append (first_of w) (firsts_of (take i ws)))
    ∙ first-at ws i t at

module _ {S : Type 0} (g : System S) (wants : List Want) (states : List S) (lists : List (List Bool)) (are : lists ≡ judged g (tests_of wants) states) where
  list-of : (i : ℕ) (test : Test) → slice_get (tests_of wants) i ≡ Some test → slice_get lists i ≡ Some (map (is_as g test) states)
  list-of i test at = ap (λ l. slice_get l i) are ∙ slice_get-map (λ t. map (is_as g t) states) (tests_of wants) i ∙ ap (option_map (λ t. map (is_as g t) states)) at

  -- where its goals are marked
  pub goals-in : (i : ℕ) (want : Want) → slice_get wants i ≡ Some want → slice_get lists i ≡ Some (map (g.test (goal_of want)) states)
  goals-in i want at =
      let goal : Want → Test = λ w. Passes (goal_of w) in
      list-of i (goal want) (front-get (record { rest = firsts_of wants; is = refl }) i (goal want) (slice_get-map goal wants i ∙ ap (option_map goal) at))

  -- and its first states
  pub firsts-in : (i place t : ℕ) → slice_get wants i ≡ Some (MustAfter t) → place ≡ length wants + length (firsts_of (take i wants)) → slice_get lists place ≡ Some (map (g.first t) states)
  firsts-in i place t at is =
      let goal : Want → Test = λ w. Passes (goal_of w) in
      let behind : place ≡ length (map goal wants) + length (firsts_of (take i wants)) = omega (arith, is, length-map wants goal) in
      list-of place (IsFirst t) (slice_get-behind (map goal wants) (firsts_of wants) place (length (firsts_of (take i wants))) behind ∙ first-at wants i t at)

-- all tests have the numbers of some
pub tests-within : (n : ℕ) (wants : List Want) → All (λ want. goal_of want < n) wants → (counts : List ℕ) → All (λ t. t < n) counts → All (λ t. number_of t < n) (tests_of wants ++ map Passes counts)
tests-within n wants few counts all = All-append P (tests_of wants) (map Passes counts) (All-append P (map goal wants) (firsts_of wants) (goals wants few) (firsts wants few)) (numbers counts all)
  where
    P : Test → Type 0
    P t = number_of t < n

    Q : Want → Type 0
    Q want = goal_of want < n

    goal : Want → Test
    goal want = Passes (goal_of want)

    goals : (ws : List Want) → All (λ want. goal_of want < n) ws → All (λ t. number_of t < n) (map goal ws)
    goals [] a = All-nil P
    goals (w ∷ ws) a = All-cons P (goal w) (map goal ws) (All-head Q w ws a) (goals ws (All-tail Q w ws a))

    one : (w : Want) → goal_of w < n → All (λ t. number_of t < n) (first_of w)
    one (Ever t) l = All-nil P
    one (Must t) l = All-nil P
    one (MustAfter t) l = All-cons P (IsFirst t) [] l (All-nil P)

    firsts : (ws : List Want) → All (λ want. goal_of want < n) ws → All (λ t. number_of t < n) (firsts_of ws)
    firsts [] a = All-nil P
    firsts (w ∷ ws) a = All-append P (first_of w) (firsts_of ws) (one w (All-head Q w ws a)) (firsts ws (All-tail Q w ws a))

    numbers : (ts : List ℕ) → All (λ t. t < n) ts → All (λ t. number_of t < n) (map Passes ts)
    numbers [] a = All-nil P
    numbers (t ∷ ts) a = All-cons P (Passes t) (map Passes ts) (All-head (λ u. u < n) t ts a) (numbers ts (All-tail (λ u. u < n) t ts a))

-- the lists of tests, and behind them those of others
pub judged-parts : {S : Type 0} (g : System S) (states : List S) (xs ys : List Test) (lists : List (List Bool)) (n : ℕ) → lists ≡ judged g (xs ++ ys) states → n + length ys ≡ length lists → (take n lists ≡ judged g xs states) × (drop n lists ≡ judged g ys states)
judged-parts g states xs ys lists n are many =
    let f : Test → List Bool = λ t. map (is_as g t) states in
    let whole : lists ≡ map f xs ++ map f ys = are ∙ map-append f xs ys in
    let long : n ≡ length (map f xs) = omega (arith, many, ap length whole, length-append (map f xs) (map f ys), length-map ys f) in
    (ap (take n) whole ∙ ap (λ k. take k (map f xs ++ map f ys)) long ∙ taken (map f xs) (map f ys), ap (drop n) whole ∙ ap (λ k. drop k (map f xs ++ map f ys)) long ∙ dropped (map f xs) (map f ys))
  where
    taken : {X : Type 0} (us vs : List X) → take (length us) (us ++ vs) ≡ us
    taken [] vs = refl
    taken (u ∷ us) vs = ap (λ l. u ∷ l) (taken us vs)

    dropped : {X : Type 0} (us vs : List X) → drop (length us) (us ++ vs) ≡ vs
    dropped [] vs = refl
    dropped (u ∷ us) vs = dropped us vs
