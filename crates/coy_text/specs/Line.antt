-- Lines before anything is asked of their place: which bytes they may have, and which of them say nothing.
use Rattle.std.specs.Prelude.{ℕ, ◌==◌, ◌&&◌, nat_le, Bool, true, List, [], ◌∷◌}
use Rattle.std.specs.List.{list_all}
use Rattle.coy_text.specs.Words.{field}

-- a space or a visible character of ASCII
abbrev pub is_visible : ℕ → Bool
is_visible byte = nat_le 32 byte && nat_le byte 126

-- a line of such bytes alone
abbrev pub is_visible_line : List ℕ → Bool
is_visible_line line = list_all is_visible line

-- a first word that says nothing: there is none, or it begins with `#`
abbrev pub says_nothing : List ℕ → Bool
says_nothing [] = true
says_nothing (byte ∷ bytes) = byte == 35

-- the words of a line that is skipped
abbrev pub is_skipped : List (List ℕ) → Bool
is_skipped words = says_nothing (field words 0)
