-- Names that stand for numbers of objects, behind a `$`.
use Rattle.std.specs.Prelude.{ℕ, ◌==◌, ◌&&◌, ◌||◌, nat_le, Bool, false, if◌then◌else◌, List, [], ◌∷◌, drop, length, Option, Some, None}
use Rattle.std.specs.List.{list_all}

-- `a` to `z`
abbrev pub is_small : ℕ → Bool
is_small byte = nat_le 97 byte && nat_le byte 122

-- a lower-case letter, a digit or `_`
abbrev pub is_name_byte : ℕ → Bool
is_name_byte byte = is_small byte || (nat_le 48 byte && nat_le byte 57) || (byte == 95)

-- a lower-case letter and then at most 15 of these
abbrev pub is_name : List ℕ → Bool
is_name [] = false
is_name (first ∷ rest) = is_small first && nat_le (length rest) 15 && list_all is_name_byte rest

-- the name that a word is, if it is one
unfoldable pub name_of : List ℕ → Option (List ℕ)
name_of word = if is_name word then Some word else None

-- a word that begins with this byte
abbrev pub begins_with : ℕ → List ℕ → Bool
begins_with byte [] = false
begins_with byte (first ∷ rest) = (first == byte)

-- what stands behind the `$` of a word, where there may be names and it begins with one
abbrev pub called : Bool → List ℕ → Option (List ℕ)
called names word = if names && begins_with 36 word then Some (drop 1 word) else None
