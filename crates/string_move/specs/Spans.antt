-- A string of bytes at successive addresses, cut at multiples of 4,096. (This project's.)
use Rattle.std.specs.Prelude.{◌≡◌, ℕ, zero, suc, ◌+◌, ◌-◌, ◌%◌, ◌<◌, ◌≤◌, min, List, [], ◌∷◌}
use Rattle.string_move.specs.declared.span.Span.{Span}

-- this many bytes from an address on
abbrev pub span : ℕ → ℕ → Span
span address size = record { address = address; size = size }

-- how many of `len` bytes from an address on lie before the next multiple of 4,096
abbrev pub first_size : ℕ → ℕ → ℕ
first_size at len = min len (4096 - at % 4096)

-- the spans of the `len` bytes from an address on, at most `most` of them: those before the next multiple of 4,096, and
-- then the spans of the rest
unfoldable pub spans_within : ℕ → ℕ → ℕ → List Span
spans_within zero at len = []
spans_within (suc most) at zero = []
spans_within (suc most) at (suc more) =
    let size = first_size at (suc more) in
    span at size ∷ spans_within most (at + size) (suc more - size)

-- the spans of the `len` bytes from an address on, which are at most as many
unfoldable pub spans : ℕ → ℕ → List Span
spans at len = spans_within len at len

-- spans that begin at one address and end at another, each where the one before it ends, and none of them empty
abbrev pub Cover : ℕ → ℕ → List Span → Type 0
Cover at end [] = at ≡ end
Cover at end (s ∷ ss) = (s.address ≡ at) × (0 < s.size) × Cover (at + s.size) end ss

-- a span that lies in one page of addresses
abbrev pub IsInOnePage : Span → Type 0
IsInOnePage s = s.address % 4096 + s.size ≤ 4096
