-- The place of the first byte that passes a test, as a search tells it.
use Rattle.std.proofs.Common.{ℕ, ◌≡◌, Bool, List, length, Option, Some, None, position, refl, arith}
use Rattle.std.proofs.lemmas.Bool.{lt-ltb, le-ltb, false_from_ne_true}
use Rattle.std.proofs.lemmas.List.Sums.{position_or_len_is}
use Rattle.memchr.specs.Find.{IsFirstByte}

-- it is what `position` gives
pub first_byte : (test : ℕ → Bool) (bytes : List ℕ) (found : Option ℕ) → IsFirstByte test bytes found → found ≡ position test bytes
first_byte test bytes None nowhere =
    rw (
      position_or_len_is test bytes (length bytes) 0 (omega arith) (λ k before. false_from_ne_true _ (nowhere k (omega arith) before)) (λ past. absurd (omega (arith, past))),
      le-ltb (length bytes) (length bytes) (omega arith),
    )
    refl
first_byte test bytes (Some place) (none_before, passes) =
    rw (
      position_or_len_is test bytes place 0 (omega (arith, none_before.high)) (λ k before. false_from_ne_true _ (none_before.before k (omega arith) before)) (λ _. passes),
      lt-ltb place (length bytes) none_before.high,
    )
    refl
