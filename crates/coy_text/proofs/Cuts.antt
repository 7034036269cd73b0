-- How the words of a line come one after the other: what the cuts of the readers make of them.
use Rattle.std.proofs.Common.{ℕ, suc, ◌≡◌, ◌≢◌, ◌+◌, ◌≤◌, ◌==◌, Bool, true, false, not, List, [], ◌∷◌, ◌++◌, length, length-append, min, take, drop, slice_index, slice_index_or, inl, inr, refl, sym, ◌∙◌, ap, append_assoc, arith, cond}
use Rattle.std.specs.Prelude.{Option, Some, None, option_map, position, unwrap_or}
use Rattle.std.specs.List.{position_or_len}
use Rattle.std.proofs.lemmas.List.{append-nil}
use Rattle.std.proofs.lemmas.Bool.{cases_Bool, cases_lt, eqb-false, ne_eqb, lt-ltb, le-ltb}
use Rattle.coy_text.specs.Words.{ended, words_on, words_of, count_of, cut_at}

-- where the first byte stands that is no space, and where the first space, or else where the line ends
abbrev pub after_spaces : List ℕ → ℕ
after_spaces line = position_or_len (λ byte. not (byte == 32)) line

abbrev pub word_end : List ℕ → ℕ
word_end line = position_or_len (λ byte. byte == 32) line

-- a cut behind the first element
drop-one : (n x : ℕ) (xs : List ℕ) → drop (1 + n) (x ∷ xs) ≡ drop n xs
drop-one n x xs = let e : 1 + n ≡ suc n = omega arith in ap (λ k. drop k (x ∷ xs)) e

take-one : (n x : ℕ) (xs : List ℕ) → take (1 + n) (x ∷ xs) ≡ x ∷ take n xs
take-one n x xs = let e : 1 + n ≡ suc n = omega arith in ap (λ k. take k (x ∷ xs)) e

drop-two : (n x : ℕ) (xs : List ℕ) → drop (1 + n + 1) (x ∷ xs) ≡ drop (n + 1) xs
drop-two n x xs = let e : 1 + n + 1 ≡ suc (n + 1) = omega arith in ap (λ k. drop k (x ∷ xs)) e

-- a space ends the unfinished word
words_on-space : (word : List ℕ) (byte : ℕ) (bytes : List ℕ) → (byte == 32) ≡ true → words_on word (byte ∷ bytes) ≡ ended word ++ words_of bytes
unfolding words_on
words_on-space word byte bytes space = rw space refl

-- another byte is part of it
words_on-letter : (word : List ℕ) (byte : ℕ) (bytes : List ℕ) → (byte == 32) ≡ false → words_on word (byte ∷ bytes) ≡ words_on (word ++ byte ∷ []) bytes
unfolding words_on
words_on-letter word byte bytes letter = rw letter refl

-- spaces at the front count for nothing
pub words_of-after_spaces : (line : List ℕ) → words_of (drop (after_spaces line) line) ≡ words_of line
words_of-after_spaces [] = refl
words_of-after_spaces (byte ∷ bytes) =
    elim (cases_Bool (byte == 32)) [
      | inl space ↦ rw (space, drop-one) (words_of-after_spaces bytes ∙ sym (words_on-space [] byte bytes space))
      | inr letter ↦ rw letter refl
    ]

-- what stands behind them begins with no space
pub front-after_spaces : (line : List ℕ) → slice_index (drop (after_spaces line) line) 0 ≢ 32
front-after_spaces [] = λ e. absurd (omega (arith, e))
front-after_spaces (byte ∷ bytes) =
    elim (cases_Bool (byte == 32)) [
      | inl space ↦ rw (space, drop-one) (front-after_spaces bytes)
      | inr letter ↦ rw letter (eqb-false byte 32 letter)
    ]

-- at the end of the line
ended_at_end : (word : List ℕ) → words_on word [] ≡ ended (word ++ []) ++ words_on [] []
unfolding words_on
ended_at_end word = ap ended (sym (append-nil word)) ∙ sym (append-nil (ended (word ++ [])))

-- an unfinished word takes in the bytes up to the next space
pub words_on-word_end : (word line : List ℕ) → words_on word line ≡ ended (word ++ take (word_end line) line) ++ words_of (drop (word_end line) line)
words_on-word_end word [] = ended_at_end word
words_on-word_end word (byte ∷ bytes) =
    elim (cases_Bool (byte == 32)) [
      | inl space ↦ rw (space, append-nil word) (words_on-space word byte bytes space ∙ ap (λ words. ended word ++ words) (sym (words_on-space [] byte bytes space)))
      | inr letter ↦
          rw (letter, take-one, drop-one)
          (words_on-letter word byte bytes letter
          ∙ words_on-word_end (word ++ byte ∷ []) bytes
          ∙ ap (λ w. ended w ++ words_of (drop (word_end bytes) bytes)) (append_assoc word (byte ∷ []) (take (word_end bytes) bytes)))
    ]

-- a line that begins with no space: its first word and the others
first_and_others : (byte : ℕ) (bytes : List ℕ) → byte ≢ 32 → words_of (byte ∷ bytes) ≡ take (word_end (byte ∷ bytes)) (byte ∷ bytes) ∷ words_of (drop (word_end (byte ∷ bytes)) (byte ∷ bytes))
first_and_others byte bytes front =
    let letter : (byte == 32) ≡ false = ne_eqb byte 32 front in
    rw (letter, take-one, drop-one) (words_on-letter [] byte bytes letter ∙ words_on-word_end (byte ∷ []) bytes)

pub first_word : (line : List ℕ) → slice_index line 0 ≢ 32 → slice_index_or (words_of line) 0 [] ≡ take (word_end line) line
unfolding words_on
first_word [] front = refl
first_word (byte ∷ bytes) front = ap (λ words. slice_index_or words 0 []) (first_and_others byte bytes front)

pub other_words : (line : List ℕ) → slice_index line 0 ≢ 32 → drop 1 (words_of line) ≡ words_of (drop (word_end line) line)
unfolding words_on
other_words [] front = refl
other_words (byte ∷ bytes) front = ap (λ words. drop 1 words) (first_and_others byte bytes front)

position_or_len-le : (p : ℕ → Bool) (xs : List ℕ) → position_or_len p xs ≤ length xs
position_or_len-le p [] = omega arith
position_or_len-le p (x ∷ xs) =
    elim (p x) as (λ b. cond (not b) (1 + position_or_len p xs) 0 ≤ suc (length xs))
    [ true ↦ omega arith | false ↦ omega (arith, position_or_len-le p xs) ]

unwrap_or-position : (p : ℕ → Bool) (xs : List ℕ) → unwrap_or (position p xs) (length xs) ≡ position_or_len p xs
unwrap_or-position p xs =
    elim (cases_lt (position_or_len p xs) (length xs)) [
      | inl within ↦ rw (lt-ltb (position_or_len p xs) (length xs) within) refl
      | inr past ↦ rw (le-ltb (position_or_len p xs) (length xs) past) (omega (arith, position_or_len-le p xs))
    ]

-- the place of a first element that passes a test, or the length of the list
pub place : (p : ℕ → Bool) (xs : List ℕ) (found : Option ℕ) (n : ℕ) → found ≡ position p xs → n ≡ unwrap_or found (length xs) → n ≡ position_or_len p xs
place p xs found n first at = at ∙ ap (λ o. unwrap_or o (length xs)) first ∙ unwrap_or-position p xs

-- there is one word more than behind the first word, where that has a byte
pub more_words : (line : List ℕ) → slice_index line 0 ≢ 32 → length (words_of line) ≡ length (words_of (drop (word_end line) line)) + min 1 (length (take (word_end line) line))
unfolding words_on
more_words [] front = refl
more_words (byte ∷ bytes) front =
    let letter : (byte == 32) ≡ false = ne_eqb byte 32 front in
    ap length (first_and_others byte bytes front) ∙ rw (letter, take-one) (omega arith)

-- a word that ends here counts for no more than its bytes
length-ended : (word : List ℕ) → length (ended word) ≤ length word
length-ended [] = omega arith
length-ended (byte ∷ bytes) = omega arith

length-words_on : (word line : List ℕ) → length (words_on word line) ≤ length word + length line
unfolding words_on
length-words_on word [] = omega (arith, length-ended word)
length-words_on word (byte ∷ bytes) =
    elim (cases_Bool (byte == 32)) [
      | inl space ↦ rw space (omega (arith, length-append (ended word) (words_of bytes), length-ended word, length-words_on [] bytes))
      | inr letter ↦ rw letter (omega (arith, length-append word (byte ∷ []), length-words_on (word ++ byte ∷ []) bytes))
    ]

-- a line has no more words than bytes
pub count_bound : (line : List ℕ) → count_of line ≤ length line
count_bound line = omega (arith, length-words_on [] line)

-- a word is cut at the place of the first mark
cut_at-position : (mark : ℕ) (word : List ℕ) → cut_at mark word ≡ option_map (λ place. (take place word, drop (place + 1) word)) (position (λ byte. byte == mark) word)
unfolding cut_at
cut_at-position mark [] = refl
cut_at-position mark (byte ∷ bytes) =
    let behind : ℕ = position_or_len (λ byte. byte == mark) bytes in
    elim (cases_Bool (byte == mark)) [
      | inl here ↦ rw (here, lt-ltb 0 (suc (length bytes)) (omega arith)) refl
      | inr there ↦
          elim (cases_lt behind (length bytes)) [
            | inl within ↦
                let e : cut_at mark bytes ≡ Some (take behind bytes, drop (behind + 1) bytes) =
                cut_at-position mark bytes ∙ rw (lt-ltb behind (length bytes) within) refl in
                rw (there, e, lt-ltb (1 + behind) (suc (length bytes)) (omega arith), take-one, drop-two) refl
            | inr past ↦
                let e : cut_at mark bytes ≡ None = cut_at-position mark bytes ∙ rw (le-ltb behind (length bytes) past) refl in
                rw (there, e, le-ltb (1 + behind) (suc (length bytes)) (omega arith)) refl
          ]
    ]

pub cut_at-place : (mark : ℕ) (word : List ℕ) (found : Option ℕ) → found ≡ position (λ byte. byte == mark) word → cut_at mark word ≡ option_map (λ place. (take place word, drop (place + 1) word)) found
cut_at-place mark word found first =
    cut_at-position mark word ∙ ap (λ o. option_map (λ place. (take place word, drop (place + 1) word)) o) (sym first)
