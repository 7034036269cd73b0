-- The closure of a relation: what `reach_below` decides is it.
use Rattle.std.proofs.Common.{◌≡◌, ℕ, zero, suc, ◌<◌, ◌≤◌, ◌==◌, ◌&&◌, ◌||◌, ◌⊎◌, inl, inr, Bool, true, false, sym, ◌∙◌, ap, subst, refl, arith, eqb-true}
use Rattle.std.proofs.lemmas.Bool.{cases_lt, or_cases, or_left, or_right, and_parts, eq-eqb}
use Rattle.separation_policy.specs.Policy.{Reach, reach_below}
use Rattle.separation_policy.specs.Policy.Reach.{Itself, Onward}

-- two answers are one where each is yes when the other is
pub same_answer : (x y : Bool) → (x ≡ true → y ≡ true) → (y ≡ true → x ≡ true) → x ≡ y
same_answer true true there back = refl
same_answer false false there back = refl
same_answer true false there back = sym (there refl)
same_answer false true there back = back refl

pub both : (x y : Bool) → x ≡ true → y ≡ true → (x && y) ≡ true
both x y a b = ap (λ (v : Bool). v && y) a ∙ b

module _ (leads : ℕ → ℕ → Bool) where
  -- one comes on from whatever one comes to
  pub reach-then : {a b c : ℕ} → Reach leads a b → Reach leads b c → Reach leads a c
  reach-then (Itself a) onward = onward
  reach-then {c = c} (Onward a m b may rest) onward = Onward a m c may (reach-then rest onward)

  -- ---- one step of the recursion

  pub below_zero : (a b : ℕ) → reach_below leads zero a b ≡ ((a == b) || leads a b)
  unfolding reach_below
  below_zero a b = refl

  pub below_suc : (k a b : ℕ) → reach_below leads (suc k) a b ≡ (reach_below leads k a b || (reach_below leads k a k && reach_below leads k k b))
  unfolding reach_below
  below_suc k a b = refl

  -- by way of numbers below one more: as before, or by way of this one
  cases_suc : (k a b : ℕ) → reach_below leads (suc k) a b ≡ true
      → (reach_below leads k a b ≡ true) ⊎ ((reach_below leads k a k ≡ true) × (reach_below leads k k b ≡ true))
  cases_suc k a b e = elim (or_cases (reach_below leads k a b) (reach_below leads k a k && reach_below leads k k b) (sym (below_suc k a b) ∙ e)) [
    | inl before ↦ inl before
    | inr both ↦ inr (and_parts (reach_below leads k a k) (reach_below leads k k b) both)
  ]

  suc_before : (k a b : ℕ) → reach_below leads k a b ≡ true → reach_below leads (suc k) a b ≡ true
  suc_before k a b e = below_suc k a b ∙ or_left (reach_below leads k a b) _ e

  suc_through : (k a b : ℕ) → reach_below leads k a k ≡ true → reach_below leads k k b ≡ true → reach_below leads (suc k) a b ≡ true
  suc_through k a b to on = below_suc k a b ∙ or_right (reach_below leads k a b) _ (both _ _ to on)

  -- ---- what is found is reached

  pub found-reach : (k a b : ℕ) → reach_below leads k a b ≡ true → Reach leads a b
  found-reach zero a b e = elim (or_cases (a == b) (leads a b) (sym (below_zero a b) ∙ e)) [
    | inl same ↦ subst (λ (n : ℕ). Reach leads a n) (eqb-true a b same) (Itself a)
    | inr may ↦ Onward a b b may (Itself b)
  ]
  found-reach (suc k) a b e = elim (cases_suc k a b e) [
    | inl before ↦ found-reach k a b before
    | inr through ↦ reach-then (found-reach k a k through.0) (found-reach k k b through.1)
  ]

  -- ---- what is reached is found

  grows : (k a b : ℕ) → reach_below leads zero a b ≡ true → reach_below leads k a b ≡ true
  grows zero a b e = e
  grows (suc k) a b e = suc_before k a b (grows k a b e)

  -- each comes to itself
  pub below-itself : (k a : ℕ) → reach_below leads k a a ≡ true
  below-itself k a = grows k a a (below_zero a a ∙ or_left (a == a) (leads a a) (eq-eqb a a refl))

  -- one comes on from each number below `k`
  onward_below : (k a m b : ℕ) → m < k → reach_below leads k a m ≡ true → reach_below leads k m b ≡ true → reach_below leads k a b ≡ true
  onward_below zero a m b lt to on = absurd (omega (arith, lt))
  onward_below (suc k) a m b lt to on = elim (cases_lt m k) [
    | inl lower ↦ below (λ x y first second. onward_below k x m y lower first second) (cases_suc k a m to) (cases_suc k m b on)
    | inr here ↦ let same : m ≡ k = omega (arith, lt, here) in
        suc_through k a b
        (at-last (cases_suc k a k (subst (λ (n : ℕ). reach_below leads (suc k) a n ≡ true) same to)))
        (from-last (cases_suc k k b (subst (λ (n : ℕ). reach_below leads (suc k) n b ≡ true) same on)))
  ]
    where
      at-last : (reach_below leads k a k ≡ true) ⊎ ((reach_below leads k a k ≡ true) × (reach_below leads k k k ≡ true)) → reach_below leads k a k ≡ true
      at-last (inl before) = before
      at-last (inr through) = through.0

      from-last : (reach_below leads k k b ≡ true) ⊎ ((reach_below leads k k k ≡ true) × (reach_below leads k k b ≡ true)) → reach_below leads k k b ≡ true
      from-last (inl before) = before
      from-last (inr through) = through.1

      below : ((x y : ℕ) → reach_below leads k x m ≡ true → reach_below leads k m y ≡ true → reach_below leads k x y ≡ true)
          → (reach_below leads k a m ≡ true) ⊎ ((reach_below leads k a k ≡ true) × (reach_below leads k k m ≡ true))
          → (reach_below leads k m b ≡ true) ⊎ ((reach_below leads k m k ≡ true) × (reach_below leads k k b ≡ true))
          → reach_below leads (suc k) a b ≡ true
      below lower (inl first) (inl second) = suc_before k a b (lower a b first second)
      below lower (inl first) (inr second) = suc_through k a b (lower a k first second.0) second.1
      below lower (inr first) (inl second) = suc_through k a b first.0 (lower k b first.1 second)
      below lower (inr first) (inr second) = suc_through k a b first.0 second.1

  -- ---- where no number past a count leads anywhere

  module _ (count : ℕ) (none : (m b : ℕ) → count ≤ m → leads m b ≡ false) where
    -- each such comes to itself alone
    pub past-itself : (k m b : ℕ) → count ≤ m → reach_below leads k m b ≡ true → m ≡ b
    past-itself zero m b past e = elim (or_cases (m == b) (leads m b) (sym (below_zero m b) ∙ e)) [
      | inl same ↦ eqb-true m b same
      | inr may ↦ let no = none m b past in absurd (cc (may, no))
    ]
    past-itself (suc k) m b past e = elim (cases_suc k m b e) [
      | inl before ↦ past-itself k m b past before
      | inr through ↦
          let here : m ≡ k = past-itself k m k past through.0 in
          past-itself k m b past (subst (λ (n : ℕ). reach_below leads k n b ≡ true) (sym here) through.1)
    ]

    -- one comes on from each
    pub onward-count : (a m b : ℕ) → reach_below leads count a m ≡ true → reach_below leads count m b ≡ true → reach_below leads count a b ≡ true
    onward-count a m b to on = elim (cases_lt m count) [
      | inl made ↦ onward_below count a m b made to on
      | inr past ↦ subst (λ (n : ℕ). reach_below leads count a n ≡ true) (past-itself count m b past on) to
    ]

    -- to where one leads one comes
    pub leads-count : (a b : ℕ) → leads a b ≡ true → reach_below leads count a b ≡ true
    leads-count a b may = grows count a b (below_zero a b ∙ or_right (a == b) (leads a b) may)

    found_of : {a b : ℕ} → Reach leads a b → reach_below leads count a b ≡ true
    found_of (Itself a) = below-itself count a
    found_of (Onward a m b may rest) = onward-count a m b (leads-count a m may) (found_of rest)

    pub reach-found : (a b : ℕ) → Reach leads a b → reach_below leads count a b ≡ true
    reach-found a b reach = found_of reach
