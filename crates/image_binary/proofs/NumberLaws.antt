-- Fields that are numbers have the laws of fields.
use Rattle.std.proofs.Common.{◌≡◌, ℕ, ◌+◌, ◌*◌, ◌%◌, ◌^◌, ◌<◌, Bool, true, List, [], ◌∷◌, length, Ok, refl, sym, ap, subst, ◌∙◌, append-nil, arith, inl, inr}
use Rattle.std.specs.Prelude.{slice_index}
use Rattle.std.proofs.lemmas.Bool.{cases_lt}
use Rattle.std.proofs.lemmas.List.{get_or_past}
use Rattle.std.proofs.lemmas.List.Elements.{All-get_or, All-head}
use Rattle.std.proofs.lemmas.Nat.{le_bytes_2, le_bytes_4}
use Rattle.byteorder.specs.Endian.{little_bytes, little_number}
use Rattle.byteorder.specs.Numbers.{little_number-reads_back, little_from-lt, length-bytes_low_first}
use Rattle.image_binary.specs.declared.fault.ImageWord.{ImageWord}
use Rattle.image_binary.specs.Fields.{tested, number, block}
use Rattle.image_binary.specs.Laws.{AreBytes}
use Rattle.image_binary.proofs.Binds.{chosen_ok}
use Rattle.image_binary.proofs.Lawful.{IsLawful, field_is}

-- each place of bytes has a byte, also past their end
pub bytes_below : (bytes : List ℕ) → AreBytes bytes → (i : ℕ) → slice_index bytes i < 256
bytes_below bytes are i = elim (cases_lt i (length bytes)) [
  | inl inside ↦ All-get_or (λ byte. byte < 256) bytes i 0 inside are
  | inr past ↦ rw (get_or_past bytes i 0 past) (omega arith)
]

-- so many bytes are those of their number
pub record IsWidth (n : ℕ) : Type 0 where
  pub back : (bytes : List ℕ) → length bytes ≡ n → AreBytes bytes → little_bytes n (little_number n bytes) ≡ bytes

one_byte : (bytes : List ℕ) → length bytes ≡ 1 → AreBytes bytes → little_bytes 1 (little_number 1 bytes) ≡ bytes
one_byte [] len are = absurd (omega arith)
one_byte (byte ∷ []) len are =
    let below : byte < 256 = All-head (λ byte. byte < 256) byte [] are in
    let same : (byte + 256 * 0) % 256 ≡ byte = omega arith in
    ap (λ b. b ∷ []) same
one_byte (byte ∷ next ∷ more) len are = absurd (omega arith)

pub width_1 : IsWidth 1
width_1 = record { back = one_byte }

pub width_2 : IsWidth 2
width_2 = record { back = λ bytes len are. le_bytes_2 bytes (little_number 2 bytes) len (bytes_below bytes are) (omega arith) }

pub width_4 : IsWidth 4
width_4 = record { back = λ bytes len are. le_bytes_4 bytes (little_number 4 bytes) len (bytes_below bytes are) (omega arith) }

-- a number is read of its bytes
pub again_number : (n x : ℕ) → x < 256 ^ n → little_number n (little_bytes n x) ≡ x
again_number n x small = ap (little_number n) (sym (append-nil (little_bytes n x))) ∙ little_number-reads_back n x [] small

-- a number that passes the test, of so many bytes
pub record IsTested (n : ℕ) (test : ℕ → Bool) (x : ℕ) : Type 0 where
  pub small : x < 256 ^ n
  pub passes : test x ≡ true

-- what the number of these bytes is
pub tested_ok : (n : ℕ) → IsWidth n → (test : ℕ → Bool) (fault : ImageWord) (bytes : List ℕ) (x : ℕ) → length bytes ≡ n → AreBytes bytes
    → tested n test fault bytes ≡ Ok x → (little_bytes n x ≡ bytes) × IsTested n test x
tested_ok n width test fault bytes x len are e =
    let c = chosen_ok (test (little_number n bytes)) fault (little_number n bytes) x e in
    subst (λ y. (little_bytes n y ≡ bytes) × IsTested n test y) c.1
    (width.back bytes len are, record { small = little_from-lt 0 n bytes (bytes_below bytes are); passes = c.0 })

pub tested_again : (n : ℕ) (test : ℕ → Bool) (fault : ImageWord) (x : ℕ) → IsTested n test x → tested n test fault (little_bytes n x) ≡ Ok x
tested_again n test fault x is = rw (again_number n x is.small, is.passes) refl

pub number_is : (n : ℕ) → IsWidth n → (test : ℕ → Bool) (fault : ImageWord) → IsLawful (number n test fault) (IsTested n test) n
number_is n width test fault =
    field_is n (little_bytes n) (tested n test fault) (IsTested n test)
    (λ bytes x len are e. tested_ok n width test fault bytes x len are e)
    (λ x is. (length-bytes_low_first 0 n x, tested_again n test fault x is))

-- bytes as they are
pub block_is : (n : ℕ) → IsLawful (block n) (λ bytes. length bytes ≡ n) n
block_is n =
    field_is n (λ bytes. bytes) Ok (λ bytes. length bytes ≡ n)
    (λ bytes x len are e. let same : bytes ≡ x = cc in (sym same, ap length (sym same) ∙ len))
    (λ x len. (len, refl))
