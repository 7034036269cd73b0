-- Bytes as text.
use Rattle.std.specs.Prelude.{ℕ, List, flat_map}
use Rattle.coy_text.specs.Numeral.{hex_text}

-- bytes, with two hexadecimal digits each
abbrev pub bytes_text : List ℕ → List ℕ
bytes_text bytes = flat_map (hex_text 2) bytes
