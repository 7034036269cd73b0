-- Words that are written with one space between two.
use Rattle.std.specs.Prelude.{ℕ, List, [], ◌∷◌, ◌++◌}

-- words, each behind a space
abbrev pub behind : List (List ℕ) → List ℕ
behind [] = []
behind (word ∷ words) = 32 ∷ (word ++ behind words)

-- words with one space between two
unfoldable pub line_of : List (List ℕ) → List ℕ
line_of [] = []
line_of (first ∷ words) = first ++ behind words
