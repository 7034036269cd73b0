-- What holds of registers that are not malformed.
use Rattle.std.proofs.Common.{◌≡◌, ℕ, ◌-◌, ◌≤◌, nat_lt, true, false, List, ◌++◌, length, get_or, replicate, slice_index, refl, inl, inr, arith}
use Rattle.std.specs.List.{All, list_any}
use Rattle.std.proofs.lemmas.Bool.{ltb-false, or_parts, cases_lt, lt-ltb, both_ways}
use Rattle.std.proofs.lemmas.List.{get_or-append_right, get_or_append_left, length-replicate, get_or-replicate, get_or_past}
use Rattle.std.proofs.lemmas.List.Folds.{list_any_at}
use Rattle.invocation.specs.Invocation.{IsString, sends, receives, sent_count, accepted_count, sent_registers, accepting_registers, has_too_many, names_no_register, is_no_string, sends_no_string, accepts_no_string, is_malformed}

-- what `parse` takes of registers that are not malformed
pub record IsWellFormed (regs : List ℕ) : Type 0 where
  pub sent : sent_count regs ≤ 4
  pub accepted : accepted_count regs ≤ 4
  pub sent_registers : list_any (nat_lt 31) (sent_registers regs) ≡ false
  pub accepting_registers : list_any (nat_lt 31) (accepting_registers regs) ≡ false
  pub string : sends regs ≡ true → IsString (slice_index regs 15) (slice_index regs 16)
  pub buffer : receives regs ≡ true → IsString (slice_index regs 20) (slice_index regs 21)

-- what is not no string is one
is_string : (at size : ℕ) → is_no_string at size ≡ false → IsString at size
is_string at size none =
    let parts = or_parts _ _ none in
    record { longest = ltb-false _ _ parts.0; ends = ltb-false _ _ parts.1 }

-- registers at which none of the six points holds
pub well_formed : (regs : List ℕ) → is_malformed regs ≡ false → IsWellFormed regs
unfolding is_malformed
well_formed regs none =
    let six = or_parts _ (accepts_no_string regs) none in
    let five = or_parts _ (sends_no_string regs) six.0 in
    let four = or_parts _ (names_no_register regs) five.0 in
    let three = or_parts _ (has_too_many regs) four.0 in
    let counts = or_parts _ _ three.1 in
    let registers = or_parts _ _ four.1 in
    record {
      sent = ltb-false _ _ counts.0;
      accepted = ltb-false _ _ counts.1;
      sent_registers = registers.0;
      accepting_registers = registers.1;
      string = λ is. is_string _ _ (rw is at five.1);
      buffer = λ is. is_string _ _ (rw is at six.1);
    }

-- a count of at most 4 is at most 4, the length of four bytes
pub few : {count n bytes : ℕ} → count ≡ n → n ≤ 4 → bytes ≡ 4 → count ≤ bytes
few same within four = omega arith

-- a number that no element is above is one that each is at most
pub all_registers : (registers : List ℕ) → list_any (nat_lt 31) registers ≡ false → All (λ register. register ≤ 31) registers
all_registers registers none = λ k d there. elim (cases_lt 31 (get_or registers k d)) [
  | inl above ↦ absurd (both_ways _ none (list_any_at (nat_lt 31) registers k d there (lt-ltb _ _ above)))
  | inr within ↦ within
]

-- registers that are all at most 31, with zeros behind them, are at most 31 at each index
pub padded_registers : (registers : List ℕ) (more : ℕ) → All (λ register. register ≤ 31) registers → (i : ℕ) → get_or (registers ++ replicate more 0) i 0 ≤ 31
padded_registers registers more all i = elim (cases_lt i (length registers)) [
  | inl there ↦ rw (get_or_append_left registers (replicate more 0) 0 i there) (all i 0 there)
  | inr past ↦ rw (get_or-append_right registers (replicate more 0) (length registers) i 0 refl past) (zeros (i - length registers))
]
  where
    zeros : (j : ℕ) → get_or (replicate more 0) j 0 ≤ 31
    zeros j = elim (cases_lt j more) [
      | inl there ↦ rw (get_or-replicate {A = ℕ} more j 0 0 there) (omega arith)
      | inr past ↦ rw (get_or_past {X = ℕ} (replicate more 0) j 0 (omega (arith, length-replicate {A = ℕ} more 0))) (omega arith)
    ]
