-- The words of a line, as the listing, the schedule and the assembler cut them: what stands between one or more
-- spaces, where spaces in front and behind count for nothing. And the parts of a word that a mark stands between.
use Rattle.std.specs.Prelude.{ℕ, ◌==◌, ◌&&◌, not, Bool, true, false, if◌then◌else◌, List, [], ◌∷◌, ◌++◌, length, slice_index_or, Option, Some, None, option_map}

-- the word that ends here, which is none where no byte stands in it
abbrev pub ended : List ℕ → List (List ℕ)
ended [] = []
ended (byte ∷ bytes) = (byte ∷ bytes) ∷ []

-- the words of an unfinished word and the bytes behind it
unfoldable pub words_on : List ℕ → List ℕ → List (List ℕ)
words_on word [] = ended word
words_on word (byte ∷ bytes) =
    (if byte == 32 then ended word else []) ++ words_on (if byte == 32 then [] else word ++ byte ∷ []) bytes

-- the words of a line
abbrev pub words_of : List ℕ → List (List ℕ)
words_of line = words_on [] line

-- word `n` of a line, from 0, which is empty where the line has no more
abbrev pub field : List (List ℕ) → ℕ → List ℕ
field words n = slice_index_or words n []

-- how many words a line has
abbrev pub count_of : List ℕ → ℕ
count_of line = length (words_of line)

-- what stands before and behind the first byte `mark`, or none where there is no such byte
unfoldable pub cut_at : ℕ → List ℕ → Option (List ℕ × List ℕ)
cut_at mark [] = None
cut_at mark (byte ∷ bytes) =
    if byte == mark then Some ([], bytes) else option_map (λ parts. (byte ∷ parts.0, parts.1)) (cut_at mark bytes)

-- the mark is none of the bytes
abbrev pub lacks : ℕ → List ℕ → Bool
lacks mark [] = true
lacks mark (byte ∷ bytes) = not (byte == mark) && lacks mark bytes

-- a text that is one word
abbrev pub is_word : List ℕ → Bool
is_word [] = false
is_word (byte ∷ bytes) = lacks 32 (byte ∷ bytes)
