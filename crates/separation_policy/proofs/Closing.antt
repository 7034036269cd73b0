-- The tables of the closure, row by row and pass by pass.
use Rattle.std.proofs.Common.{◌≡◌, ◌≢◌, ℕ, zero, suc, ◌+◌, ◌<◌, ◌≤◌, ◌^◌, ◌==◌, ◌&&◌, ◌||◌, ◌⊎◌, inl, inr, max, Bool, true, false, if◌then◌else◌, ltb, List, [], ◌∷◌, ◌++◌, length, get_or, refl, sym, ◌∙◌, ap, ap₂, subst, arith, add-one, eqb-true}
use Rattle.std.specs.Int.{bit_at}
use Rattle.std.specs.Int.Bits.{bit_or}
use Rattle.std.proofs.lemmas.Nat.Bits.{bit_at_or, bit_at-lt, bit_at-zero, bit_at-pow_same, bit_at-pow_other}
use Rattle.std.proofs.lemmas.Bool.{cases_lt, or_cases, or_left, or_right, eq-eqb, lt-ltb, le-ltb}
use Rattle.std.proofs.lemmas.Bool.Decides.{eqb_tells}
use Rattle.std.proofs.lemmas.List.{get_or_past, get_or-map, get_or_append_left, length-append, length-map}
use Rattle.std.proofs.Math.Seq.{get_or-append_seam}
use Rattle.separation_policy.specs.declared.domain_set.DomainSet.{DomainSet}
use Rattle.separation_policy.specs.DomainSet.{no_domains, has_domain, with_domain, both_domains}
use Rattle.separation_policy.specs.Policy.{PolicyValue, domain_at, may_read, may_write, may_learn, reach_below, sees, sees_written, written_below}
use Rattle.separation_policy.specs.Closure.{IsClosure, AreReachedBelow, HaveWritten, closure_of, row_reaches, passed_by, passed, all_passed, written_by, linked_below}
use Rattle.separation_policy.proofs.Reaching.{same_answer, below_zero, below_suc, below-itself}
use Rattle.separation_policy.proofs.Reading.{unmade-sees, unmade-views, unmade-writes, written-made, written-none, written-suc, seen-writer, reads-seen}

-- ---- sets

-- the greater of two bits is set where one of them is
max_bit : (x y : ℕ) → x < 2 → y < 2 → (max x y == 1) ≡ ((x == 1) || (y == 1))
max_bit zero zero a b = refl
max_bit zero (suc zero) a b = refl
max_bit (suc zero) zero a b = refl
max_bit (suc zero) (suc zero) a b = refl
max_bit (suc (suc x)) y a b = absurd (omega (arith, a))
max_bit zero (suc (suc y)) a b = absurd (omega (arith, b))
max_bit (suc zero) (suc (suc y)) a b = absurd (omega (arith, b))

bit-or : (x y d : ℕ) → (bit_at (bit_or x y) d == 1) ≡ ((bit_at x d == 1) || (bit_at y d == 1))
bit-or x y d = ap (λ (n : ℕ). n == 1) (bit_at_or x y d) ∙ max_bit _ _ (bit_at-lt x d) (bit_at-lt y d)

-- what is in both sets is in one of them
has-both : (some others : DomainSet) (d : ℕ) → has_domain (both_domains some others) d ≡ (has_domain some d || has_domain others d)
has-both some others d = bit-or some.bits others.bits d

-- one more
pub has-with : (domains : DomainSet) (d b : ℕ) → has_domain (with_domain domains d) b ≡ (has_domain domains b || (d == b))
has-with domains d b = bit-or domains.bits (2 ^ d) b ∙ ap (λ (x : Bool). has_domain domains b || x) (one (eqb_tells d b))
  where
    one : ((d == b) ≡ true) × (d ≡ b) ⊎ ((d == b) ≡ false) × (d ≢ b) → (bit_at (2 ^ d) b == 1) ≡ (d == b)
    one (inl same) = subst (λ (n : ℕ). (bit_at (2 ^ d) n == 1) ≡ true) same.1 (ap (λ (n : ℕ). n == 1) (bit_at-pow_same d)) ∙ sym same.0
    one (inr other) = ap (λ (n : ℕ). n == 1) (bit_at-pow_other d b (λ e. other.1 (sym e))) ∙ sym other.0

-- nothing is in the empty set
pub has-none : (d : ℕ) → has_domain no_domains d ≡ false
has-none d = ap (λ (n : ℕ). n == 1) (bit_at-zero d)

or_swap : (x y : Bool) → (x || y) ≡ (y || x)
or_swap true true = refl
or_swap true false = refl
or_swap false true = refl
or_swap false false = refl

-- ---- rows

none_more : (x : Bool) → x ≡ (x || false)
none_more true = refl
none_more false = refl

-- a row more
pub rows-more : (leads : ℕ → ℕ → Bool) (rows : List DomainSet) (row : DomainSet) → ((a b : ℕ) → a < length rows → has_domain (get_or rows a no_domains) b ≡ reach_below leads 0 a b)
    → ((b : ℕ) → has_domain row b ≡ reach_below leads 0 (length rows) b)
    → (a b : ℕ) → a < length (rows ++ row ∷ []) → has_domain (get_or (rows ++ row ∷ []) a no_domains) b ≡ reach_below leads 0 a b
rows-more leads rows row before last a b lt = elim (cases_lt a (length rows)) [
  | inl there ↦ ap (λ (r : DomainSet). has_domain r b) (get_or_append_left rows (row ∷ []) no_domains a there) ∙ before a b there
  | inr past ↦
      let long = length-append rows (row ∷ []) in
      let same : length rows ≡ a = omega (arith, long, lt, past) in
      subst (λ (n : ℕ). has_domain (get_or (rows ++ row ∷ []) n no_domains) b ≡ reach_below leads 0 n b) same
      (ap (λ (r : DomainSet). has_domain r b) (get_or-append_seam rows row [] no_domains) ∙ last b)
]

has-passed : (k b : ℕ) (through row : DomainSet) → has_domain (passed_by k through row) b ≡ (has_domain row b || (has_domain row k && has_domain through b))
has-passed k b through row = by (has_domain row k)
  where
    by : (x : Bool) → has_domain (if x then both_domains row through else row) b ≡ (has_domain row b || (x && has_domain through b))
    by true = has-both row through b
    by false = none_more (has_domain row b)

passed_zero : (rows : List DomainSet) → all_passed zero rows ≡ rows
unfolding all_passed
passed_zero rows = refl

passed_suc : (k : ℕ) (rows : List DomainSet) → all_passed (suc k) rows ≡ passed k (all_passed k rows)
unfolding all_passed
passed_suc k rows = refl

module _ (leads : ℕ → ℕ → Bool) (count : ℕ) where
  -- a pass more
  pass_more : (k : ℕ) (rows : List DomainSet) → k < length rows → AreReachedBelow leads count k rows → AreReachedBelow leads count (suc k) (passed k rows)
  pass_more k rows there seen = record { size = long ∙ seen.size; each = λ a b lt. each a b (omega (arith, lt, long)) }
    where
      long : length (passed k rows) ≡ length rows
      long = length-map rows _

      each : (a b : ℕ) → a < length rows → has_domain (get_or (passed k rows) a no_domains) b ≡ reach_below leads (suc k) a b
      each a b lt =
          ap (λ (row : DomainSet). has_domain row b) (get_or-map (passed_by k (get_or rows k no_domains)) rows a no_domains no_domains lt)
          ∙ (has-passed k b (get_or rows k no_domains) (get_or rows a no_domains)
          ∙ (ap₂ (λ (x y : Bool). x || y) (seen.each a b lt) (ap₂ (λ (x y : Bool). x && y) (seen.each a k lt) (seen.each k b there))
          ∙ sym (below_suc leads k a b)))

  all_below : (k : ℕ) (rows : List DomainSet) → k ≤ length rows → AreReachedBelow leads count 0 rows → AreReachedBelow leads count k (all_passed k rows)
  all_below zero rows le seen = subst (λ (xs : List DomainSet). AreReachedBelow leads count 0 xs) (sym (passed_zero rows)) seen
  all_below (suc k) rows le seen =
      let before = all_below k rows (omega (arith, le)) seen in
      let size = before.size in
      let first = seen.size in
      subst (λ (xs : List DomainSet). AreReachedBelow leads count (suc k) xs) (sym (passed_suc k rows)) (pass_more k (all_passed k rows) (omega (arith, le, size, first)) before)

  -- behind all passes the rows say who comes to whom
  pub closed : (rows : List DomainSet) → ((m b : ℕ) → count ≤ m → reach_below leads count m b ≡ true → m ≡ b) → AreReachedBelow leads count 0 rows
      → (a b : ℕ) → row_reaches (all_passed (length rows) rows) a b ≡ reach_below leads count a b
  closed rows past-itself seen a b = elim (cases_lt a (length (all_passed (length rows) rows))) [
    | inl made ↦ same_answer _ _
        (λ e. elim (or_cases (a == b) (has_domain (get_or all a no_domains) b) e) [
          | inl here ↦ subst (λ (n : ℕ). reach_below leads count a n ≡ true) (eqb-true a b here) (below-itself leads count a)
          | inr there ↦ sym (here-seen made) ∙ there
        ])
        (λ e. or_right (a == b) _ (here-seen made ∙ e))
    | inr past ↦ same_answer _ _
        (λ e. elim (or_cases (a == b) (has_domain (get_or all a no_domains) b) e) [
          | inl here ↦ subst (λ (n : ℕ). reach_below leads count a n ≡ true) (eqb-true a b here) (below-itself leads count a)
          | inr there ↦ let no = none past in absurd (cc (there, no))
        ])
        (λ e. or_left (a == b) _ (eq-eqb a b (past-itself a b (omega (arith, past, whole.size)) e)))
  ]
    where
      all : List DomainSet
      all = all_passed (length rows) rows

      whole : AreReachedBelow leads count (length rows) (all_passed (length rows) rows)
      whole = all_below (length rows) rows (omega arith) seen

      here-seen : a < length all → has_domain (get_or all a no_domains) b ≡ reach_below leads count a b
      here-seen made = whole.each a b made ∙ ap (λ (n : ℕ). reach_below leads n a b) seen.size

      none : length all ≤ a → has_domain (get_or all a no_domains) b ≡ false
      none past = ap (λ (row : DomainSet). has_domain row b) (get_or_past all a no_domains past) ∙ has-none b

-- one pass more, as a loop counts
pub passed-none : (rows : List DomainSet) → all_passed 0 rows ≡ rows
passed-none rows = passed_zero rows

pub passed-more : (k : ℕ) (rows : List DomainSet) → all_passed (k + 1) rows ≡ passed k (all_passed k rows)
passed-more k rows = ap (λ (n : ℕ). all_passed n rows) (add-one k) ∙ passed_suc k rows

pub passed-length : (k : ℕ) (rows : List DomainSet) → length (all_passed k rows) ≡ length rows
unfolding all_passed
passed-length zero rows = refl
passed-length (suc k) rows = length-map (all_passed k rows) _ ∙ passed-length k rows

-- ---- first rows

has-either : (x : Bool) (k b : ℕ) (row : DomainSet) → has_domain (if x then with_domain row k else row) b ≡ (has_domain row b || (x && (k == b)))
has-either true k b row = has-with row k b
has-either false k b row = none_more (has_domain row b)

-- who is below one more, or where that is
below-more : (first : Bool) (link : ℕ → Bool) (k b : ℕ) → ((first || (ltb b k && link b)) || (link k && (k == b))) ≡ (first || (ltb b (suc k) && link b))
below-more first link k b = by (eqb_tells k b) (cases_lt b k)
  where
    later : (x : Bool) → (x || (link k && false)) ≡ x
    later true = refl
    later false = none (link k)
      where
        none : (x : Bool) → (x && false) ≡ false
        none true = refl
        none false = refl

    last : (x y : Bool) → ((x || (false && y)) || (y && true)) ≡ (x || (true && y))
    last true y = refl
    last false true = refl
    last false false = refl

    step : (p q : Bool) → ltb b k ≡ p → ltb b (suc k) ≡ q → (k == b) ≡ false → p ≡ q → ((first || (ltb b k && link b)) || (link k && (k == b))) ≡ (first || (ltb b (suc k) && link b))
    step p q e f other same =
        ap (λ (v : Bool). (first || (ltb b k && link b)) || (link k && v)) other
        ∙ (later (first || (ltb b k && link b)) ∙ ap (λ (v : Bool). first || (v && link b)) (e ∙ (same ∙ sym f)))

    by : ((k == b) ≡ true) × (k ≡ b) ⊎ ((k == b) ≡ false) × (k ≢ b) → (b < k) ⊎ (k ≤ b) → ((first || (ltb b k && link b)) || (link k && (k == b))) ≡ (first || (ltb b (suc k) && link b))
    by (inl same) (inl lower) = let here = same.1 in absurd (omega (arith, here, lower))
    by (inl same) (inr past) =
        let here = same.1 in
        ap₂ (λ (v w : Bool). (first || (v && link b)) || (link k && w)) (le-ltb b k past) same.0
        ∙ (ap (λ (n : ℕ). (first || (false && link b)) || (link n && true)) here
        ∙ (last first (link b) ∙ sym (ap (λ (v : Bool). first || (v && link b)) (lt-ltb b (suc k) (omega (arith, here))))))
    by (inr other) (inl lower) = step true true (lt-ltb b k lower) (lt-ltb b (suc k) (omega (arith, lower))) other.0 refl
    by (inr other) (inr past) = elim (cases_lt k b) [
      | inl above ↦ step false false (le-ltb b k past) (le-ltb b (suc k) (omega (arith, above))) other.0 refl
      | inr below ↦ absurd (other.1 (omega (arith, past, below)))
    ]

or_group : (x y z : Bool) → ((x || y) || z) ≡ (x || (y || z))
or_group true y z = refl
or_group false y z = refl

either_false : (x y : Bool) → x ≡ false → y ≡ false → (x || y) ≡ false
either_false x y p q = ap (λ (v : Bool). v || y) p ∙ q

module _ (policy : PolicyValue) where
  -- a domain with whom it may read
  pub read-row : (a b : ℕ) (reads : DomainSet) → (may_read policy a b ≡ has_domain reads b) → has_domain (with_domain reads a) b ≡ reach_below (may_read policy) 0 a b
  read-row a b reads same = has-with reads a b ∙ (or_swap (has_domain reads b) (a == b) ∙ (ap (λ (x : Bool). (a == b) || x) (sym same) ∙ sym (below_zero (may_read policy) a b)))

  linked_zero : (a : ℕ) → linked_below policy a zero ≡ with_domain (domain_at policy a).reads a
  unfolding linked_below
  linked_zero a = refl

  linked_suc : (a k : ℕ) → linked_below policy a (suc k) ≡ (if may_write policy a k || may_write policy k a then with_domain (linked_below policy a k) k else linked_below policy a k)
  unfolding linked_below
  linked_suc a k = refl

  pub linked-none : (a : ℕ) → linked_below policy a 0 ≡ with_domain (domain_at policy a).reads a
  linked-none a = linked_zero a

  pub linked-more : (a k : ℕ) → linked_below policy a (k + 1) ≡ (if may_write policy a k || may_write policy k a then with_domain (linked_below policy a k) k else linked_below policy a k)
  linked-more a k = ap (λ (n : ℕ). linked_below policy a n) (add-one k) ∙ linked_suc a k

  -- whether one may write the other
  abbrev link : ℕ → ℕ → Bool
  link a b = may_write policy a b || may_write policy b a

  -- who is in such a row
  has-linked : (a k b : ℕ) → has_domain (linked_below policy a k) b ≡ (has_domain (with_domain (domain_at policy a).reads a) b || (ltb b k && link a b))
  has-linked a zero b =
      ap (λ (row : DomainSet). has_domain row b) (linked_zero a)
      ∙ (none_more (has_domain (with_domain (domain_at policy a).reads a) b)
      ∙ ap (λ (v : Bool). has_domain (with_domain (domain_at policy a).reads a) b || (v && link a b)) (sym (le-ltb b 0 (omega arith))))
  has-linked a (suc k) b =
      ap (λ (row : DomainSet). has_domain row b) (linked_suc a k)
      ∙ (has-either (link a k) k b (linked_below policy a k)
      ∙ (ap (λ (v : Bool). v || (link a k && (k == b))) (has-linked a k b)
      ∙ below-more (has_domain (with_domain (domain_at policy a).reads a) b) (link a) k b))

  -- of a domain that was made, the row has those that it may learn from
  pub linked-row : (a b : ℕ) → a < length policy.domains → has_domain (linked_below policy a (length policy.domains)) b ≡ reach_below (may_learn policy) 0 a b
  linked-row a b made =
      has-linked a (length policy.domains) b
      ∙ (ap₂ (λ (x y : Bool). x || y) (has-with (domain_at policy a).reads a b ∙ or_swap (may_read policy a b) (a == b)) whole
      ∙ (or_group (a == b) (may_read policy a b) (may_write policy a b || may_write policy b a) ∙ sym (below_zero (may_learn policy) a b)))
    where
      unwritten : length policy.domains ≤ b → (x : Bool) → may_write policy a b ≡ x → x ≡ false
      unwritten past true e = let lt = written-made policy a b e in absurd (omega (arith, lt, past))
      unwritten past false e = refl

      whole : (ltb b (length policy.domains) && link a b) ≡ (may_write policy a b || may_write policy b a)
      whole = elim (cases_lt b (length policy.domains)) [
        | inl there ↦ ap (λ (v : Bool). v && (may_write policy a b || may_write policy b a)) (lt-ltb b (length policy.domains) there)
        | inr past ↦
            ap (λ (v : Bool). v && (may_write policy a b || may_write policy b a)) (le-ltb b (length policy.domains) past)
            ∙ sym (either_false _ _ (unwritten past (may_write policy a b) refl) (unmade-writes policy b a past))
      ]

  -- ---- who is written

  written_zero : (writers : DomainSet) → written_by policy writers zero ≡ no_domains
  unfolding written_by
  written_zero writers = refl

  written_suc : (writers : DomainSet) (k : ℕ) → written_by policy writers (suc k) ≡ (if has_domain writers k then both_domains (written_by policy writers k) (domain_at policy k).writes else written_by policy writers k)
  unfolding written_by
  written_suc writers k = refl

  pub written_by-none : (writers : DomainSet) → written_by policy writers 0 ≡ no_domains
  written_by-none writers = written_zero writers

  pub written_by-more : (writers : DomainSet) (k : ℕ) → written_by policy writers (k + 1) ≡ (if has_domain writers k then both_domains (written_by policy writers k) (domain_at policy k).writes else written_by policy writers k)
  written_by-more writers k = ap (λ (n : ℕ). written_by policy writers n) (add-one k) ∙ written_suc writers k

  -- such a row has whom those write that a domain reads
  has-written : (a d : ℕ) (writers : DomainSet) → d < length policy.domains → ((b : ℕ) → has_domain writers b ≡ sees policy a b) → (k : ℕ)
      → has_domain (written_by policy writers k) d ≡ written_below policy k a d
  has-written a d writers made same zero = ap (λ (row : DomainSet). has_domain row d) (written_zero writers) ∙ (has-none d ∙ sym (written-none policy a d))
  has-written a d writers made same (suc k) =
      ap (λ (row : DomainSet). has_domain row d) (written_suc writers k)
      ∙ (by (has_domain writers k)
      ∙ (ap₂ (λ (x y : Bool). x || y) (has-written a d writers made same k) (ap₂ (λ (x y : Bool). x && y) (same k) there)
      ∙ sym (written-suc policy k a d)))
    where
      there : has_domain (domain_at policy k).writes d ≡ may_write policy k d
      there = sym (ap (λ (v : Bool). v && has_domain (domain_at policy k).writes d) (lt-ltb d (length policy.domains) made))

      by : (x : Bool) → has_domain (if x then both_domains (written_by policy writers k) (domain_at policy k).writes else written_by policy writers k) d
          ≡ (has_domain (written_by policy writers k) d || (x && has_domain (domain_at policy k).writes d))
      by true = has-both (written_by policy writers k) (domain_at policy k).writes d
      by false = none_more _

  -- ---- all three tables

  module _ (first linked written : List DomainSet) where
    abbrev count : ℕ
    count = length policy.domains

    abbrev reads : List DomainSet
    reads = all_passed (length first) first

    module _ (read : AreReachedBelow (may_read policy) count 0 first) (learn : AreReachedBelow (may_learn policy) count 0 linked) (have : HaveWritten policy reads written) where
      seen : (a b : ℕ) → row_reaches reads a b ≡ sees policy a b
      seen a b = closed (may_read policy) count first (λ m b past e. unmade-sees policy m b past e) read a b

      long : length written ≡ count
      long = have.size ∙ (passed-length (length first) first ∙ read.size)

      -- a row has its own domain, so it says whom the domain reads
      row-seen : (a b : ℕ) → a < count → has_domain (get_or reads a no_domains) b ≡ sees policy a b
      row-seen a b made =
          let whole = all_below (may_read policy) count (length first) first (omega arith) read in
          let size = whole.size in
          whole.each a b (omega (arith, made, size)) ∙ ap (λ (n : ℕ). reach_below (may_read policy) n a b) read.size

      wrote : (a d : ℕ) → (ltb d (length written) && has_domain (get_or written a no_domains) d) ≡ sees_written policy a d
      wrote a d = elim (cases_lt d count) [
        | inl made ↦ ap (λ (v : Bool). v && has_domain (get_or written a no_domains) d) (lt-ltb d (length written) (omega (arith, made, long))) ∙ elim (cases_lt a count) [
          | inl there ↦
              ap (λ (row : DomainSet). has_domain row d) (have.each a (omega (arith, there, long)))
              ∙ has-written a d (get_or reads a no_domains) made (λ b. row-seen a b there) count
          | inr past ↦
              ap (λ (row : DomainSet). has_domain row d) (get_or_past written a no_domains (omega (arith, past, long))) ∙ (has-none d ∙ sym (nobody past count (sees_written policy a d) refl))
        ]
        | inr beyond ↦ ap (λ (v : Bool). v && has_domain (get_or written a no_domains) d) (le-ltb d (length written) (omega (arith, beyond, long))) ∙ sym (no-domain beyond (sees_written policy a d) refl)
      ]
        where
          nobody : count ≤ a → ℕ → (x : Bool) → sees_written policy a d ≡ x → x ≡ false
          nobody past k true e =
              let writer = seen-writer policy a d e in
              let same : a ≡ writer.by = unmade-sees policy a writer.by past (reads-seen policy a writer.by writer.reads) in
              let no = unmade-writes policy a d past in
              let yes : may_write policy a d ≡ true = subst (λ (n : ℕ). may_write policy n d ≡ true) (sym same) writer.writes in
              absurd (cc (no, yes))
          nobody past k false e = refl

          no-domain : count ≤ d → (x : Bool) → sees_written policy a d ≡ x → x ≡ false
          no-domain beyond true e =
              let writer = seen-writer policy a d e in
              let lt = written-made policy writer.by d writer.writes in
              absurd (omega (arith, lt, beyond))
          no-domain beyond false e = refl

      pub all-closed : IsClosure policy (closure_of reads written (all_passed (length linked) linked))
      all-closed = record {
        reads = seen;
        written = wrote;
        views = λ a b. closed (may_learn policy) count linked (λ m b past e. unmade-views policy m b past e) learn a b;
      }
