-- The records of a table, by the keys of its nodes.
use Rattle.std.proofs.Common.{◌≡◌, ◌≢◌, ◌⊎◌, inl, inr, ℕ, zero, suc, Bool, true, false, ◌||◌, List, [], ◌∷◌, length, get_or, cond, Option, Some, None, is_some, count_by, refl, sym, arith}
use Rattle.std.proofs.lemmas.List.Sums.{sum_by-cons}
use Rattle.depend_table.specs.declared.chain.Node.{Node}
use Rattle.depend_table.specs.Depend.{Depend, has, same}
use Rattle.depend_table.proofs.Members.{same_itself, same_tells}
use Rattle.depend_table.specs.Chain.{record_of, records_of}

-- there are as many records as nodes
pub length-records : (slots : List (Option Node)) → length (records_of slots) ≡ count_by is_some slots
length-records [] = refl
length-records (None ∷ rest) = omega (arith, length-records rest, sum_by-cons (λ (o : Option Node). cond (is_some o) 1 0) None rest)
length-records (Some n ∷ rest) = omega (arith, length-records rest, sum_by-cons (λ (o : Option Node). cond (is_some o) 1 0) (Some n) rest)

-- a node under some key has the record
abbrev pub Noted : List (Option Node) → Depend → Type 0
Noted slots d = (k : ℕ) × ((n : Node) × ((get_or slots k None ≡ Some n) × (record_of n ≡ d)))

-- one of two tests holds
either : (a b : Bool) → (a || b) ≡ true → (a ≡ true) ⊎ (b ≡ true)
either true b holds = inl refl
either false b holds = inr holds

or_right : (a b : Bool) → b ≡ true → (a || b) ≡ true
or_right true b holds = refl
or_right false b holds = holds

-- a record that is there has a node
pub noted-has : (slots : List (Option Node)) (d : Depend) → has (records_of slots) d ≡ true → Noted slots d
noted-has [] d holds = absurd (cc)
noted-has (None ∷ rest) d holds = let later = noted-has rest d holds in (suc later.0, later.1)
noted-has (Some n ∷ rest) d holds = on (either (same (record_of n) d) (has (records_of rest) d) holds) (noted-has rest d)
  where
    on : (same (record_of n) d ≡ true) ⊎ (has (records_of rest) d ≡ true) → (has (records_of rest) d ≡ true → Noted rest d) → Noted (Some n ∷ rest) d
    on (inl here) next = (0, (n, (refl, same_tells (record_of n) d here)))
    on (inr there) next = let later = next there in (suc later.0, later.1)

-- a record that has a node is there
pub has-noted : (slots : List (Option Node)) (k : ℕ) (n : Node) → get_or slots k None ≡ Some n → has (records_of slots) (record_of n) ≡ true
has-noted [] k n at = absurd (cc)
has-noted (None ∷ rest) zero n at = absurd (cc)
has-noted (None ∷ rest) (suc k) n at = has-noted rest k n at
has-noted (Some m ∷ rest) zero n at = let here : m ≡ n = cc in rw (here, same_itself (record_of n)) refl
has-noted (Some m ∷ rest) (suc k) n at = or_right (same (record_of m) (record_of n)) (has (records_of rest) (record_of n)) (has-noted rest k n at)

-- a test that holds of no node's record fails
pub has-none : (slots : List (Option Node)) (d : Depend) → ((k : ℕ) (n : Node) → get_or slots k None ≡ Some n → record_of n ≢ d) → has (records_of slots) d ≡ false
has-none slots d none = on (has (records_of slots) d) refl
  where
    on : (b : Bool) → has (records_of slots) d ≡ b → b ≡ false
    on true is = let there = noted-has slots d is in absurd (none there.0 there.1.0 there.1.1.0 there.1.1.1)
    on false is = refl

-- two tests that hold together are equal
pub equal_tests : (a b : Bool) → (a ≡ true → b ≡ true) → (b ≡ true → a ≡ true) → a ≡ b
equal_tests true b to from = sym (to refl)
equal_tests false true to from = from refl
equal_tests false false to from = refl
