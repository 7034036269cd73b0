-- What grows round by round over so many objects is closed after as many rounds: each round but the last adds one of them at least.
use Rattle.std.proofs.Common.{◌≡◌, ℕ, zero, suc, ◌<◌, ◌≤◌, ◌⊎◌, inl, inr, ⊎_elim, Bool, true, false, not, ◌&&◌, ◌||◌, refl, sym, ◌∙◌, subst, subst₂, arith}
use Rattle.std.proofs.lemmas.Bool.{cases_lt, or_cases, or_left, or_right, and_from, and_parts, not-true, false≢true}
use Rattle.cap_format.specs.declared.kind.CapKind.{CapKind}
use Rattle.cap_format.specs.declared.kind.CapKind.TheVariants.{Gpt}
use Rattle.quiet_runs.specs.Finding.{is_below}
use Rattle.quiet_runs.proofs.Below.{below-has, below-none, below-some}

-- ---- how many pass a test

-- one more, if a number passes
abbrev and_one : Bool → ℕ → ℕ
and_one true n = suc n
and_one false n = n

-- the numbers below a bound that pass
abbrev passing : (ℕ → Bool) → ℕ → ℕ
passing test zero = 0
passing test (suc n) = and_one (test n) (passing test n)

one-more : (b : Bool) (n : ℕ) → and_one b n ≤ suc n
one-more true n = omega arith
one-more false n = omega arith

-- no more than there are
passing-most : (test : ℕ → Bool) (n : ℕ) → passing test n ≤ n
passing-most test zero = omega arith
passing-most test (suc n) = let few = passing-most test n in let one = one-more (test n) (passing test n) in omega arith

-- where as many pass as there are, all do
passing-all : (test : ℕ → Bool) (n i : ℕ) → n ≤ passing test n → i < n → test i ≡ true
passing-all test zero i all l = absurd (omega arith)
passing-all test (suc n) i all l = on (test n) refl (passing-all test n i)
  where
    on : (b : Bool) → test n ≡ b → (n ≤ passing test n → i < n → test i ≡ true) → test i ≡ true
    on true e rest =
        let most : suc n ≤ suc (passing test n) = subst (λ (b : Bool). suc n ≤ and_one b (passing test n)) e all in
        ⊎_elim
        (λ (under : i < n). rest (omega arith) under)
        (λ (over : n ≤ i). let at : n ≡ i = omega arith in subst (λ (k : ℕ). test k ≡ true) at e)
        (cases_lt i n)
    on false e rest =
        let few : suc n ≤ passing test n = subst (λ (b : Bool). suc n ≤ and_one b (passing test n)) e all in
        let most = passing-most test n in
        absurd (omega arith)

one-suc : (b : Bool) (n : ℕ) → and_one b (suc n) ≡ suc (and_one b n)
one-suc true n = refl
one-suc false n = refl

one-both : (b c : Bool) (m n : ℕ) → (b ≡ true → c ≡ true) → m ≤ n → and_one b m ≤ and_one c n
one-both true true m n more l = omega arith
one-both true false m n more l = absurd (false≢true (more refl))
one-both false true m n more l = omega arith
one-both false false m n more l = l

module _ (test more : ℕ → Bool) where
  -- where more pass, there are more
  passing-more : (n : ℕ) → ((i : ℕ) → i < n → test i ≡ true → more i ≡ true) → passing test n ≤ passing more n
  passing-more zero all = omega arith
  passing-more (suc n) all = one-both (test n) (more n) (passing test n) (passing more n) (all n (omega arith)) (passing-more n (λ i l. all i (omega arith)))

  -- and one at least, where one passes now that didn't
  passing-new : (n i : ℕ) → ((j : ℕ) → j < n → test j ≡ true → more j ≡ true) → i < n → more i ≡ true → test i ≡ false → suc (passing test n) ≤ passing more n
  passing-new zero i all l new old = absurd (omega arith)
  passing-new (suc n) i all l new old =
      ⊎_elim
      (λ (under : i < n).
      let rest : suc (passing test n) ≤ passing more n = passing-new n i (λ j l. all j (omega arith)) under new old in
      let both : and_one (test n) (suc (passing test n)) ≤ and_one (more n) (passing more n) = one-both (test n) (more n) (suc (passing test n)) (passing more n) (all n (omega arith)) rest in
      subst (λ (k : ℕ). k ≤ and_one (more n) (passing more n)) (one-suc (test n) (passing test n)) both)
      (λ (over : n ≤ i).
      let at : i ≡ n = omega arith in
      let few : passing test n ≤ passing more n = passing-more n (λ j l. all j (omega arith)) in
      let step : suc (passing test n) ≤ suc (passing more n) = omega arith in
      let no : test n ≡ false = subst (λ (k : ℕ). test k ≡ false) at old in
      let yes : more n ≡ true = subst (λ (k : ℕ). more k ≡ true) at new in
      subst₂ (λ (b c : Bool). suc (and_one b (passing test n)) ≤ and_one c (passing more n)) (sym no) (sym yes) step)
      (cases_lt i n)

-- ---- rounds

was : (now last : Bool) → now ≡ true → (now && not last) ≡ false → last ≡ true
was now true is e = refl
was now false is e = absurd (false≢true (sym e ∙ and_from now true is refl))

module _ (size : ℕ) (base : CapKind → ℕ → Bool) (edge : ℕ → CapKind → ℕ → Bool) where
  -- those of the base, and those to which an edge leads from a GPT that is one already
  abbrev pub stepped : (ℕ → Bool) → CapKind → ℕ → Bool
  stepped last kind n = base kind n || is_below (λ g. last g && edge g kind n) size

  -- after so many rounds
  abbrev pub grown : ℕ → CapKind → ℕ → Bool
  grown zero kind n = false
  grown (suc k) kind n = stepped (grown k Gpt) kind n

  -- more GPTs lead to more
  stepped-more : (last next : ℕ → Bool) (kind : CapKind) (n : ℕ) → ((g : ℕ) → g < size → last g ≡ true → next g ≡ true) → stepped last kind n ≡ true → stepped next kind n ≡ true
  stepped-more last next kind n more e =
      ⊎_elim
      (λ (first : base kind n ≡ true). or_left (base kind n) (is_below (λ g. next g && edge g kind n) size) first)
      (λ (led : is_below (λ g. last g && edge g kind n) size ≡ true).
      let some = below-some (λ g. last g && edge g kind n) size led in
      let parts = and_parts (last some.number) (edge some.number kind n) some.passes in
      or_right (base kind n) (is_below (λ g. next g && edge g kind n) size)
      (below-has (λ g. next g && edge g kind n) size some.number some.below
      (and_from (next some.number) (edge some.number kind n) (more some.number some.below parts.0) parts.1)))
      (or_cases (base kind n) (is_below (λ g. last g && edge g kind n) size) e)

  -- none is lost
  grown-more : (k : ℕ) (kind : CapKind) (n : ℕ) → grown k kind n ≡ true → grown (suc k) kind n ≡ true
  grown-more zero kind n e = absurd (false≢true e)
  grown-more (suc k) kind n e = stepped-more (grown k Gpt) (grown (suc k) Gpt) kind n (λ g l. grown-more k Gpt g) e

  -- a round adds no GPT
  abbrev Stable : ℕ → Type 0
  Stable k = (g : ℕ) → g < size → grown (suc k) Gpt g ≡ true → grown k Gpt g ≡ true

  -- then the next adds none
  stable-then : (k : ℕ) → Stable k → Stable (suc k)
  stable-then k stable g l e = stepped-more (grown (suc k) Gpt) (grown k Gpt) Gpt g stable e

  -- either a round adds none, or there are as many as rounds
  grown-enough : (k : ℕ) → Stable k ⊎ (k ≤ passing (grown k Gpt) size)
  grown-enough zero = inr (omega arith)
  grown-enough (suc k) =
      ⊎_elim
      (λ (stable : Stable k). inl (stable-then k stable))
      (λ (many : k ≤ passing (grown k Gpt) size). on many (is_below added size) refl)
      (grown-enough k)
    where
      added : ℕ → Bool
      added g = grown (suc k) Gpt g && not (grown k Gpt g)

      on : (k ≤ passing (grown k Gpt) size) → (b : Bool) → is_below added size ≡ b → Stable (suc k) ⊎ (suc k ≤ passing (grown (suc k) Gpt) size)
      on many true e =
          let some = below-some added size e in
          let parts = and_parts (grown (suc k) Gpt some.number) (not (grown k Gpt some.number)) some.passes in
          let more : suc (passing (grown k Gpt) size) ≤ passing (grown (suc k) Gpt) size =
          passing-new (grown k Gpt) (grown (suc k) Gpt) size some.number (λ g l. grown-more k Gpt g) some.below parts.0 (not-true (grown k Gpt some.number) parts.1) in
          inr (omega arith)
      on many false e = inl (stable-then k (λ g l now. was (grown (suc k) Gpt g) (grown k Gpt g) now (below-none added size g e l)))

  -- as many rounds as there are GPTs add no more
  stable-last : Stable size
  stable-last =
      ⊎_elim
      (λ (stable : Stable size). stable)
      (λ (many : size ≤ passing (grown size Gpt) size) (g : ℕ) (l : g < size) (e : grown (suc size) Gpt g ≡ true). passing-all (grown size Gpt) size g many l)
      (grown-enough size)

  -- what an edge leads to from one of them is one of them
  pub grown-closed : (g : ℕ) (kind : CapKind) (n : ℕ) → g < size → grown (suc size) Gpt g ≡ true → edge g kind n ≡ true → grown (suc size) kind n ≡ true
  grown-closed g kind n l is leads =
      or_right (base kind n) (is_below (λ g. grown size Gpt g && edge g kind n) size)
      (below-has (λ g. grown size Gpt g && edge g kind n) size g l (and_from (grown size Gpt g) (edge g kind n) (stable-last g l is) leads))

  -- and so is each of the base
  pub grown-base : (k : ℕ) (kind : CapKind) (n : ℕ) → base kind n ≡ true → grown (suc k) kind n ≡ true
  grown-base k kind n is = or_left (base kind n) (is_below (λ g. grown k Gpt g && edge g kind n) size) is
