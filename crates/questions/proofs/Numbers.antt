-- Which properties ask something, one by one.
use Rattle.std.proofs.Common.{◌≡◌, ◌∙◌, ℕ, zero, suc, ◌+◌, ◌<◌, ◌≤◌, ◌⊎◌, ◌++◌, ◌∷◌, [], Bool, true, false, if◌then◌else◌, List, length, Some, slice_get, get_or, refl, sym, ap, subst, inl, inr, arith, length-append}
use Rattle.std.specs.List.{All, Contains}
use Rattle.std.proofs.lemmas.Bool.{cases_lt}
use Rattle.std.proofs.Math.Seq.{get_or-append_seam}
use Rattle.std.proofs.lemmas.List.{get_or_append_left}
use Rattle.std.proofs.lemmas.List.Elements.{Contains-append_cases, Contains-append_left, Contains-append_right, Contains-push}
use Rattle.std.proofs.lemmas.Option.{get_or_from_slice_get, slice_get-get_or, slice_get_within}
use Rattle.questions.specs.declared.asks.Asks.{Asks}
use Rattle.questions.specs.Question.{PropertyValue}
use Rattle.questions.specs.Asking.{asking, asking_below, property_at}

module _ (asks : Asks → Bool) (properties : List PropertyValue) where
  pub asking-zero : asking_below asks properties 0 ≡ []
  unfolding asking_below
  asking-zero = refl

  asking-suc : (n : ℕ) → asking_below asks properties (suc n) ≡ asking_below asks properties n ++ (if asks (property_at properties n).asks then n ∷ [] else [])
  unfolding asking_below
  asking-suc n = refl

  -- one more, which does or doesn't
  pub asking-more : (n : ℕ) (b : Bool) → asks (property_at properties n).asks ≡ b → asking_below asks properties (n + 1) ≡ asking_below asks properties n ++ (if b then n ∷ [] else [])
  asking-more n b is =
      let one : n + 1 ≡ suc n = omega arith in
      ap (asking_below asks properties) one ∙ asking-suc n ∙ ap (λ (b : Bool). asking_below asks properties n ++ (if b then n ∷ [] else [])) is

  -- a property that asks it is among them
  has_below : (n k : ℕ) → k < n → asks (property_at properties k).asks ≡ true → Contains (asking_below asks properties n) k
  has_below zero k below asked = absurd (omega (arith, below))
  has_below (suc n) k below asked = subst (λ xs. Contains xs k) (sym (asking-suc n)) (elim (cases_lt k n) [
    | inl lower ↦ Contains-append_left (asking_below asks properties n) _ k (has_below n k lower asked)
    | inr past ↦
        let last : k ≡ n = omega (arith, below, past) in
        Contains-append_right (asking_below asks properties n) _ k
        (subst (λ m. Contains (if asks (property_at properties m).asks then m ∷ [] else []) k) last
        (subst (λ (b : Bool). Contains (if b then k ∷ [] else []) k) (sym asked) (Contains-push [] k)))
  ])

  -- what is among them asks it
  is_below : (n k : ℕ) → Contains (asking_below asks properties n) k → (k < n) × (asks (property_at properties k).asks ≡ true)
  is_below zero k has = absurd (none (subst (λ xs. Contains xs k) asking-zero has))
    where
      none : Contains {X = ℕ} [] k → ⊥
      none found = let inside : found.0 < 0 = found.1 in omega (arith, inside)
  is_below (suc n) k has = by (λ before. is_below n k before) (Contains-append_cases (asking_below asks properties n) _ k (subst (λ xs. Contains xs k) (asking-suc n) has))
    where
      last : (b : Bool) → asks (property_at properties n).asks ≡ b → Contains (if b then n ∷ [] else []) k → (k < suc n) × (asks (property_at properties k).asks ≡ true)
      last true is found =
          let inside : found.0 < 1 = found.1 in
          let first : found.0 ≡ 0 = omega (arith, inside) in
          let same : n ≡ k = subst (λ i. get_or (n ∷ []) i k ≡ k) first found.2 in
          (omega (arith, same), subst (λ m. asks (property_at properties m).asks ≡ true) same is)
      last false is found = let inside : found.0 < 0 = found.1 in absurd (omega (arith, inside))

      by : (Contains (asking_below asks properties n) k → (k < n) × (asks (property_at properties k).asks ≡ true))
          → Contains (asking_below asks properties n) k ⊎ Contains (if asks (property_at properties n).asks then n ∷ [] else []) k
          → (k < suc n) × (asks (property_at properties k).asks ≡ true)
      by below (inl before) = let both = below before in (omega (arith, both.0), both.1)
      by below (inr here) = last (asks (property_at properties n).asks) refl here

  -- before one of them stand all that come before it
  earlier_below : (b e n m : ℕ) → slice_get (asking_below asks properties b) e ≡ Some n → m < n → asks (property_at properties m).asks ≡ true → (i : ℕ) × (i < e) × (slice_get (asking_below asks properties b) i ≡ Some m)
  earlier_below zero e n m there before asked = absurd (none (subst (λ xs. slice_get xs e ≡ Some n) asking-zero there))
    where
      none : slice_get {X = ℕ} [] e ≡ Some n → ⊥
      none some = let inside = slice_get_within [] e n some in omega (arith, inside)
  earlier_below (suc b) e n m there before asked = by (cases_lt e (length l)) (λ there. earlier_below b e n m there before asked) (asks (property_at properties b).asks) refl
    where
      l : List ℕ
      l = asking_below asks properties b

      r : Bool → List ℕ
      r asks_it = if asks_it then b ∷ [] else []

      -- what stands in the front stands in all
      in-all : (i k : ℕ) → slice_get l i ≡ Some k → slice_get (asking_below asks properties (suc b)) i ≡ Some k
      in-all i k at =
          let inside = slice_get_within l i k at in
          let more = r (asks (property_at properties b).asks) in
          let whole : i < length (l ++ more) = omega (arith, inside, length-append l more) in
          subst (λ xs. slice_get xs i ≡ Some k) (sym (asking-suc b))
          (slice_get-get_or (l ++ more) i k whole ∙ ap Some (get_or_append_left l more k i inside ∙ get_or_from_slice_get l i k k at))

      in-front : e < length l → slice_get l e ≡ Some n
      in-front inside =
          let more = r (asks (property_at properties b).asks) in
          let whole = subst (λ xs. slice_get xs e ≡ Some n) (asking-suc b) there in
          slice_get-get_or l e n inside ∙ ap Some (sym (get_or_append_left l more n e inside) ∙ get_or_from_slice_get (l ++ more) e n n whole)

      last : (asks_it : Bool) → asks (property_at properties b).asks ≡ asks_it → length l ≤ e → (i : ℕ) × (i < e) × (slice_get (asking_below asks properties (suc b)) i ≡ Some m)
      last false is past =
          let whole = subst (λ xs. slice_get xs e ≡ Some n) (asking-suc b ∙ ap (λ asks_it. l ++ r asks_it) is) there in
          let inside = slice_get_within (l ++ []) e n whole in
          absurd (omega (arith, inside, past, length-append l []))
      last true is past =
          let whole = subst (λ xs. slice_get xs e ≡ Some n) (asking-suc b ∙ ap (λ asks_it. l ++ r asks_it) is) there in
          let inside = slice_get_within (l ++ b ∷ []) e n whole in
          let here : e ≡ length l = omega (arith, inside, past, length-append l (b ∷ [])) in
          let same : n ≡ b = sym (get_or_from_slice_get (l ++ b ∷ []) e n n whole) ∙ ap (get_or_at n) here ∙ get_or-append_seam l b [] n in
          let c = has_below b m (omega (arith, before, same)) asked in
          (c.0, omega (arith, c.1, here), in-all c.0 m (slice_get-get_or l c.0 m c.1 ∙ ap Some c.2))
        where
          get_or_at : ℕ → ℕ → ℕ
          get_or_at d i = get_or (l ++ b ∷ []) i d

      by : (e < length l) ⊎ (length l ≤ e) → (slice_get l e ≡ Some n → (i : ℕ) × (i < e) × (slice_get l i ≡ Some m)) → (asks_it : Bool) → asks (property_at properties b).asks ≡ asks_it
          → (i : ℕ) × (i < e) × (slice_get (asking_below asks properties (suc b)) i ≡ Some m)
      by (inl inside) below asks_it is = let place = below (in-front inside) in (place.0, place.1, in-all place.0 m place.2)
      by (inr past) below asks_it is = last asks_it is past

  -- ---- all of them

  pub asking-has : (k : ℕ) → k < length properties → asks (property_at properties k).asks ≡ true → Contains (asking asks properties) k
  asking-has k there asked = has_below (length properties) k there asked

  pub asking-earlier : (e n m : ℕ) → slice_get (asking asks properties) e ≡ Some n → m < n → asks (property_at properties m).asks ≡ true → (i : ℕ) × (i < e) × (slice_get (asking asks properties) i ≡ Some m)
  asking-earlier e n m there before asked = earlier_below (length properties) e n m there before asked

  pub asking-is : (i k : ℕ) → slice_get (asking asks properties) i ≡ Some k → (k < length properties) × (asks (property_at properties k).asks ≡ true)
  asking-is i k some =
      let within = slice_get_within (asking asks properties) i k some in
      let same = get_or_from_slice_get (asking asks properties) i k k some in
      is_below (length properties) k (i, within, same)

  -- each of them is there
  pub asking-there : All (λ n. n < length properties) (asking asks properties)
  asking-there i d l = (asking-is i (get_or (asking asks properties) i d) (slice_get-get_or (asking asks properties) i d l)).0
