-- The words of a line, parted at each separator.
use Rattle.std.proofs.Common.{◌≡◌, ℕ, suc, ◌+◌, ◌<◌, ◌==◌, Bool, true, false, if◌then◌else◌, List, [], ◌∷◌, ◌++◌, length, take, drop, get_or, Result, Ok, Err, refl, sym, ◌∙◌, ap, ap₂, arith, append-nil, append_assoc}
use Rattle.std.specs.Prelude.{bytes_eq}
use Rattle.std.proofs.Math.Dec.{eqb-suc-suc, eqb-zero-suc}
use Rattle.std.proofs.Math.Seq.{drop-length}
use Rattle.std.proofs.lemmas.List.{drop_more}
use Rattle.listing_read.specs.Faults.{◌>>=◌}
use Rattle.listing_read.specs.declared.object_fault.QuestionFault.{QuestionFault}
use Rattle.question_lines.specs.declared.fault.Untaken.{Untaken}
use Rattle.question_lines.specs.declared.fault.Untaken.TheVariants.{Refused, OutOfMemory}
use Rattle.question_lines.specs.Parts.{IsPushed, before, each_part, parted}
use Rattle.question_lines.specs.QuestionLine.{IsUntaken}

module _ (separator : List ℕ) where
  -- ---- how many words stand before the first separator

  before-cons : (word : List ℕ) (words : List (List ℕ)) → before separator (word ∷ words) ≡ (if bytes_eq word separator then 0 else suc (before separator words))
  unfolding before
  before-cons word words = refl

  pub before-nil : before separator [] ≡ 0
  unfolding before
  before-nil = refl

  module _ (words : List (List ℕ)) (i : ℕ) (within : i < length words) where
    at-drop : before separator (drop i words) ≡ (if bytes_eq (get_or words i []) separator then 0 else suc (before separator (drop (i + 1) words)))
    at-drop = ap (before separator) (drop_more words i [] within) ∙ before-cons (get_or words i []) (drop (i + 1) words)

    -- this word is one
    pub before-here : bytes_eq (get_or words i []) separator ≡ true → before separator (drop i words) ≡ 0
    before-here here = at-drop ∙ ap (λ (b : Bool). if b then 0 else suc (before separator (drop (i + 1) words))) here

    -- this word is none
    pub before-further : bytes_eq (get_or words i []) separator ≡ false → before separator (drop i words) ≡ suc (before separator (drop (i + 1) words))
    before-further other = at-drop ∙ ap (λ (b : Bool). if b then 0 else suc (before separator (drop (i + 1) words))) other

  -- behind all words there is none
  pub before-past : (words : List (List ℕ)) (i : ℕ) → i ≡ length words → before separator (drop i words) ≡ 0
  before-past words i end = ap (λ n. before separator (drop n words)) end ∙ ap (before separator) (drop-length words) ∙ before-nil

  -- ---- the first part

  -- what is left behind the first separator, where there is one
  abbrev behind_first : List (List ℕ) → ℕ → List (List (List ℕ))
  behind_first words k = if k == length words then [] else parted separator [] (drop (suc k) words)

  parted-cons : (part : List (List ℕ)) (word : List ℕ) (words : List (List ℕ))
      → parted separator part (word ∷ words)
      ≡ (if bytes_eq word separator then part ∷ [] else []) ++ parted separator (if bytes_eq word separator then [] else part ++ word ∷ []) words
  unfolding parted
  parted-cons part word words = refl

  parted-nil : (part : List (List ℕ)) → parted separator part [] ≡ part ∷ []
  unfolding parted
  parted-nil part = refl

  parted-first : (part words : List (List ℕ))
      → parted separator part words ≡ (part ++ take (before separator words) words) ∷ behind_first words (before separator words)
  parted-first part [] =
      parted-nil part
      ∙ ap₂ (λ (p : List (List ℕ)) (rest : List (List (List ℕ))). p ∷ rest) (sym (append-nil part)) refl
      ∙ ap (λ k. (part ++ take k []) ∷ behind_first [] k) (sym before-nil)
  parted-first part (word ∷ words) = parted-cons part word words ∙ by (parted-first (part ++ word ∷ []) words) (bytes_eq word separator) refl
    where
      whole : ℕ → List (List (List ℕ))
      whole k = (part ++ take k (word ∷ words)) ∷ behind_first (word ∷ words) k

      at : (b : Bool) → bytes_eq word separator ≡ b → before separator (word ∷ words) ≡ (if b then 0 else suc (before separator words))
      at b is = before-cons word words ∙ ap (λ (b : Bool). if b then 0 else suc (before separator words)) is

      by : parted separator (part ++ word ∷ []) words ≡ ((part ++ word ∷ []) ++ take (before separator words) words) ∷ behind_first words (before separator words)
          → (b : Bool) → bytes_eq word separator ≡ b
          → (if b then part ∷ [] else []) ++ parted separator (if b then [] else part ++ word ∷ []) words
          ≡ (part ++ take (before separator (word ∷ words)) (word ∷ words)) ∷ behind_first (word ∷ words) (before separator (word ∷ words))
      by further true is =
          ap (λ p. p ∷ parted separator [] words) (sym (append-nil part))
          ∙ ap (λ (b : Bool). (part ++ []) ∷ (if b then [] else parted separator [] words)) (sym (eqb-zero-suc (length words)))
          ∙ ap whole (sym (at true is))
      by further false is =
          further
          ∙ ap (λ p. p ∷ behind_first words (before separator words)) (append_assoc part (word ∷ []) (take (before separator words) words))
          ∙ ap (λ (b : Bool). (part ++ (word ∷ take (before separator words) words)) ∷ (if b then [] else parted separator [] (drop (suc (before separator words)) words)))
          (sym (eqb-suc-suc (before separator words) (length words)))
          ∙ ap whole (sym (at false is))

-- ---- part by part

module _ {A : Type 0} where
  -- what was said, and behind it what is read, unless there is a fault
  abbrev pub behind : List A → Result (List A) QuestionFault → Result (List A) QuestionFault
  behind done (Ok all) = Ok (done ++ all)
  behind done (Err fault) = Err fault

  -- what is said in front of what is read
  abbrev in_front : A → Result (List A) QuestionFault → Result (List A) QuestionFault
  in_front said read = read >>= (λ all. Ok (said ∷ all))

  behind-in_front : (done : List A) (said : A) (read : Result (List A) QuestionFault) → behind done (in_front said read) ≡ behind (done ++ said ∷ []) read
  behind-in_front done said (Ok all) = ap Ok (sym (append_assoc done (said ∷ []) all))
  behind-in_front done said (Err fault) = refl

  module _ (read : List (List ℕ) → Result A QuestionFault) (separator : List ℕ) where
    -- what all parts say
    abbrev pub all_parts : List (List ℕ) → Result (List A) QuestionFault
    all_parts words = each_part read (parted separator [] words)

    module _ (words : List (List ℕ)) (old : List A) where
      -- the first part, and what is left behind it
      first_part : (k : ℕ) → k ≡ before separator words
          → behind old (all_parts words) ≡ behind old (each_part read (take k words ∷ behind_first separator words k))
      first_part k at =
          ap (λ parts. behind old (each_part read parts)) (parted-first separator [] words)
          ∙ ap (λ k. behind old (each_part read (take k words ∷ behind_first separator words k))) (sym at)

      -- it says something
      pub part-pushed : (k : ℕ) (new : List A) → k ≡ before separator words → IsPushed (read (take k words)) old new
          → behind old (all_parts words) ≡ (if k == length words then Ok new else behind new (all_parts (drop (k + 1) words)))
      part-pushed k new at pushed = first_part k at ∙ by (read (take k words)) pushed refl (k == length words)
        where
          of_rest : Result A QuestionFault → List (List (List ℕ)) → Result (List A) QuestionFault
          of_rest said rest = said >>= (λ said. in_front said (each_part read rest))

          last_one : (said : A) → new ≡ old ++ said ∷ [] → (last : Bool)
              → behind old (in_front said (each_part read (if last then [] else parted separator [] (drop (suc k) words))))
              ≡ (if last then Ok new else behind new (all_parts (drop (k + 1) words)))
          last_one said is true = ap Ok (sym is)
          last_one said is false =
              let further : suc k ≡ k + 1 = omega arith in
              behind-in_front old said (all_parts (drop (suc k) words))
              ∙ ap (λ done. behind done (all_parts (drop (suc k) words))) (sym is)
              ∙ ap (λ n. behind new (all_parts (drop n words))) further

          by : (first : Result A QuestionFault) → IsPushed first old new → read (take k words) ≡ first → (last : Bool)
              → behind old (of_rest (read (take k words)) (if last then [] else parted separator [] (drop (suc k) words)))
              ≡ (if last then Ok new else behind new (all_parts (drop (k + 1) words)))
          by (Ok said) is first last =
              ap (λ r. behind old (of_rest r (if last then [] else parted separator [] (drop (suc k) words)))) first ∙ last_one said is last
          by (Err fault) is first last = absurd is

      -- it has a fault, or memory is wanting
      pub part-untaken : (k : ℕ) (untaken : Untaken) → k ≡ before separator words → IsUntaken (read (take k words)) untaken
          → IsUntaken (behind old (all_parts words)) untaken
      part-untaken k (Refused fault) at is =
          first_part k at ∙ ap (λ (r : Result A QuestionFault). behind old (r >>= (λ said. in_front said (each_part read (behind_first separator words k))))) is
      part-untaken k OutOfMemory at is = tt
