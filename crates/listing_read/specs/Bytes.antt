-- Bytes written as pairs of hexadecimal digits.
use Rattle.std.specs.Prelude.{ℕ, ◌+◌, ◌*◌, List, [], ◌∷◌, Option, Some, None}
use Rattle.coy_text.specs.Numeral.{hex_digit}
use Rattle.coy_text.specs.Reading.{◌>>=◌}

-- the byte of two digits
unfoldable pub byte_of : ℕ → ℕ → Option ℕ
byte_of high low = do
  sixteens ← hex_digit high
  ones ← hex_digit low
  Some (sixteens * 16 + ones)

-- the bytes of the pairs, if all are digits and none is alone
unfoldable pub bytes_of : List ℕ → Option (List ℕ)
bytes_of [] = Some []
bytes_of (digit ∷ []) = None
bytes_of (high ∷ low ∷ digits) = do
  byte ← byte_of high low
  bytes ← bytes_of digits
  Some (byte ∷ bytes)
