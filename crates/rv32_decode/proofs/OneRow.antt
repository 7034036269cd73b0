-- No word is of two rows, so that the order of the table says nothing.
use Rattle.std.proofs.Common.{arith, ◌≡◌, ℕ, zero, suc, Bool, true, false, List, [], ◌∷◌, refl, bit_and, ◌≢◌, ◌⊎◌, inl, inr}
use Rattle.std.specs.Prelude.{Some, if◌then◌else◌, ◌==◌, Contains}
use Rattle.std.proofs.lemmas.Nat.{and_assoc, and_comm}
use Rattle.std.proofs.lemmas.Bool.Decides.{nat_tests}
use Rattle.rv32_decode.specs.Table.{Row, rows, made, found, insn_at}

-- where both masks have ones the matches differ
abbrev are_apart : Row → Row → Bool
are_apart one other = if bit_and one.match other.mask == bit_and other.match one.mask then false else true

abbrev is_apart_from : Row → List Row → Bool
is_apart_from one [] = true
is_apart_from one (row ∷ rest) = if are_apart one row then is_apart_from one rest else false

abbrev all_apart : List Row → Bool
all_apart [] = true
all_apart (row ∷ rest) = if is_apart_from row rest then all_apart rest else false

rows_apart : all_apart rows ≡ true
unfolding rows
rows_apart = refl

in_front_or_behind : (row other : Row) (rest : List Row) → Contains (row ∷ rest) other → (row ≡ other) ⊎ Contains rest other
in_front_or_behind row other rest (zero, below, at) = inl at
in_front_or_behind row other rest (suc k, below, at) = inr (k, omega arith, at)

-- a word of two rows would have the same bits where both masks have ones
not_both : (word : ℕ) (one other : Row) → are_apart one other ≡ true
    → bit_and word one.mask ≡ one.match → bit_and word other.mask ≡ other.match → ⊥
not_both word one other apart is_one is_other =
    let first = and_assoc other.mask word one.mask in
    let second = and_assoc one.mask word other.mask in
    grind (arith, nat_tests, first, second, and_comm one.mask other.mask)

apart_from_each : (one other : Row) (rest : List Row) → is_apart_from one rest ≡ true → Contains rest other
    → are_apart one other ≡ true
apart_from_each one other [] apart within = absurd (omega (arith, within.1))
apart_from_each one other (row ∷ rest) apart within =
    elim (in_front_or_behind row other rest within) [
      | inl here ↦ grind (arith, nat_tests)
      | inr behind ↦ apart_from_each one other rest (grind (arith, nat_tests)) behind
    ]

module _ (word : ℕ) (row : Row) (matches : bit_and word row.mask ≡ row.match) where
  found_of : (rs : List Row) → all_apart rs ≡ true → Contains rs row → found rs word ≡ Some (made row.form word)
  found_of [] apart within = absurd (omega (arith, within.1))
  found_of (first ∷ rest) apart within =
      elim (in_front_or_behind first row rest within) [
        | inl here ↦ rw here (grind (arith, nat_tests))
        | inr behind ↦
            let alone : is_apart_from first rest ≡ true = grind (arith, nat_tests) in
            let others : all_apart rest ≡ true = grind (arith, nat_tests) in
            let later : found rest word ≡ Some (made row.form word) = found_of rest others behind in
            let apart_here = apart_from_each first row rest alone behind in
            let never : bit_and word first.mask ≢ first.match = λ (e : bit_and word first.mask ≡ first.match). not_both word first row apart_here e matches in
            grind (arith, nat_tests)
      ]

-- the instruction of a word is that of any row that it matches
pub one_row : (word : ℕ) (row : Row) → Contains rows row → bit_and word row.mask ≡ row.match
    → insn_at word ≡ Some (made row.form word)
unfolding insn_at
one_row word row within matches = found_of word row matches rows rows_apart within
