-- A fair schedule without end begins with any number of rounds.
use Rattle.std.proofs.Common.{◌≡◌, ℕ, zero, suc, ◌+◌, ◌-◌, ◌<◌, ◌≤◌, ◌⊎◌, inl, inr, Bool, true, List, [], ◌∷◌, ◌++◌, length, All, refl, sym, ap, ◌∙◌, subst, arith}
use Rattle.std.proofs.lemmas.Bool.{cases_eq}
use Rattle.std.proofs.lemmas.List.Elements.{All-cons, All-nil}
use Rattle.std.specs.List.{concat, Contains}
use Rattle.fair_rounds.specs.Rounds.{IsRound, passes, MustWithin}
use Rattle.fair_rounds.specs.Fair.{IsFair, part}
use Rattle.fair_rounds.proofs.Passing.{contains-left, contains-right}

module _ (width : ℕ) (schedule : ℕ → ℕ) (fair : IsFair width schedule) where
  length-part : (from n : ℕ) → length (part schedule from n) ≡ n
  length-part from zero = refl
  length-part from (suc n) = ap suc (length-part (suc from) n)

  part-append : (from m n : ℕ) → part schedule from (m + n) ≡ part schedule from m ++ part schedule (from + m) n
  part-append from zero n =
      let e : 0 + n ≡ n = omega arith in
      let f : from ≡ from + 0 = omega arith in
      ap (part schedule from) e ∙ ap (λ a. part schedule a n) f
  part-append from (suc m) n =
      let e : suc m + n ≡ suc (m + n) = omega arith in
      let f : suc from + m ≡ from + suc m = omega arith in
      ap (part schedule from) e ∙ ap (λ l. schedule from ∷ l) (part-append (suc from) m n ∙ ap (λ a. part schedule (suc from) m ++ part schedule a n) f)

  part-has : (from n i : ℕ) → i < n → Contains (part schedule from n) (schedule (from + i))
  part-has from zero i l = absurd (omega (arith, l))
  part-has from (suc n) zero l = (let e : from ≡ from + 0 = omega arith in (0, omega arith, ap schedule e))
  part-has from (suc n) (suc i) l =
      let e : suc from + i ≡ from + suc i = omega arith in
      let rest = part-has (suc from) n i (omega arith) in
      subst (λ c. Contains (part schedule from (suc n)) (schedule c)) e (contains-right (schedule from ∷ []) (part schedule (suc from) n) (schedule (suc from + i)) rest)

  part-choices : (from n : ℕ) → All (λ c. c < width) (part schedule from n)
  part-choices from zero = All-nil (λ c. c < width)
  part-choices from (suc n) = All-cons (λ c. c < width) (schedule from) (part schedule (suc from) n) (fair.choices from) (part-choices (suc from) n)

  -- so many choices from a moment on, the first so many of all choices among them
  record Covers (from k : ℕ) : Type 0 where
    pub long : ℕ
    pub has : (c : ℕ) → c < k → Contains (part schedule from long) c

  cover-more : (from k : ℕ) (before : Covers from k) (m : ℕ) → from + before.long ≤ m → schedule m ≡ k → Covers from (suc k)
  cover-more from k before m l is = record { long = before.long + (suc m - (from + before.long)); has = has }
    where
      parts : part schedule from (before.long + (suc m - (from + before.long))) ≡ part schedule from before.long ++ part schedule (from + before.long) (suc m - (from + before.long))
      parts = part-append from before.long (suc m - (from + before.long))

      last : Contains (part schedule (from + before.long) (suc m - (from + before.long))) k
      last =
          let e : from + before.long + (m - (from + before.long)) ≡ m = omega (arith, l) in
          subst (Contains (part schedule (from + before.long) (suc m - (from + before.long)))) (ap schedule e ∙ is)
          (part-has (from + before.long) (suc m - (from + before.long)) (m - (from + before.long)) (omega (arith, l)))

      has : (c : ℕ) → c < suc k → Contains (part schedule from (before.long + (suc m - (from + before.long)))) c
      has c n = by (cases_eq c k)
        where
          by : (c ≡ k) ⊎ (c ≡ k → ⊥) → Contains (part schedule from (before.long + (suc m - (from + before.long)))) c
          by (inl e) = subst (λ (xs : List ℕ). Contains xs c) (sym parts)
              (contains-right (part schedule from before.long) (part schedule (from + before.long) (suc m - (from + before.long))) c (subst (Contains (part schedule (from + before.long) (suc m - (from + before.long)))) (sym e) last))
          by (inr apart) = subst (λ (xs : List ℕ). Contains xs c) (sym parts)
              (contains-left (part schedule from before.long) (part schedule (from + before.long) (suc m - (from + before.long))) c (before.has c (omega (arith, n, apart))))

  covers : (k : ℕ) → k ≤ width → (from : ℕ) → Covers from k
  covers zero l from = record { long = 0; has = λ c m. absurd (omega (arith, m)) }
  covers (suc k) l from =
      let before = covers k (omega (arith, l)) from in
      let next = fair.again (from + before.long) k (omega (arith, l)) in
      cover-more from k before next.0 next.1 next.2

  -- so many rounds from a moment on
  record Begins (from most : ℕ) : Type 0 where
    pub rounds : List (List ℕ)
    pub many : length rounds ≡ most
    pub are : All (IsRound width) rounds
    pub long : ℕ
    pub parts : concat rounds ≡ part schedule from long

  begins : (most from : ℕ) → Begins from most
  begins zero from = record { rounds = []; many = refl; are = All-nil (IsRound width); long = 0; parts = refl }
  begins (suc most) from =
      let one = covers width (omega arith) from in
      let rest = begins most (from + one.long) in
      record {
        rounds = part schedule from one.long ∷ rest.rounds;
        many = ap suc rest.many;
        are = All-cons (IsRound width) (part schedule from one.long) rest.rounds (record { choices = part-choices from one.long; each = one.has }) rest.are;
        long = one.long + rest.long;
        parts = ap (λ l. part schedule from one.long ++ l) rest.parts ∙ sym (part-append from one.long rest.long);
      }

  -- where so many rounds pass a goal, the schedule does
  pub fair-passes : {S : Type 0} (next : S → ℕ → S) (goal : S → Bool) (s : S) (most : ℕ) → MustWithin next goal width s most → (n : ℕ) × (passes next goal s (part schedule 0 n) ≡ true)
  fair-passes next goal s most must =
      let r = begins most 0 in
      (r.long, ap (passes next goal s) (sym r.parts) ∙ must r.rounds r.many r.are)
