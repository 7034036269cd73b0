-- Numbers as text: which words are numbers, and the hexadecimal digits that a number is written with. A number in
-- decimal is written as std's `decimal` has it.
use Rattle.std.specs.Prelude.{ℕ, zero, suc, ◌+◌, ◌-◌, ◌*◌, ◌/◌, ◌%◌, ◌^◌, ◌&&◌, nat_le, nat_lt, Bool, if◌then◌else◌, List, [], ◌∷◌, ◌++◌, length, Option, Some, None, option_and_then}

-- the digit that a byte stands for in decimal: '0' to '9'
abbrev pub dec_digit : ℕ → Option ℕ
dec_digit byte = if nat_le 48 byte && nat_le byte 57 then Some (byte - 48) else None

-- the digit that a byte stands for in hexadecimal: '0' to '9', 'A' to 'F' and 'a' to 'f'
abbrev pub hex_digit : ℕ → Option ℕ
hex_digit byte =
    if nat_le 48 byte && nat_le byte 57 then Some (byte - 48)
    else (if nat_le 65 byte && nat_le byte 70 then Some (byte - 55)
    else (if nat_le 97 byte && nat_le byte 102 then Some (byte - 87) else None))

-- the value of the digits of a word, highest first, behind digits of value n; none where a byte is no digit
abbrev pub value_on : ℕ → (ℕ → Option ℕ) → ℕ → List ℕ → Option ℕ
value_on base digit n [] = Some n
value_on base digit n (byte ∷ word) = option_and_then (λ d. value_on base digit (n * base + d) word) (digit byte)

-- a number that 32 bits hold
abbrev pub in_32_bits : ℕ → Option ℕ
in_32_bits n = if nat_lt n (2 ^ 32) then Some n else None

-- the word has from 1 to `most` bytes
abbrev pub has_length_to : ℕ → List ℕ → Bool
has_length_to most word = nat_le 1 (length word) && nat_le (length word) most

-- a decimal number: 1 to 10 digits, of a value that 32 bits hold
unfoldable pub dec_of : List ℕ → Option ℕ
dec_of word = if has_length_to 10 word then option_and_then in_32_bits (value_on 10 dec_digit 0 word) else None

-- a hexadecimal number: 1 to 8 digits, which 32 bits always hold
unfoldable pub hex_of : List ℕ → Option ℕ
hex_of word = if has_length_to 8 word then value_on 16 hex_digit 0 word else None

-- the byte that a hexadecimal digit is written with
abbrev pub hex_glyph : ℕ → ℕ
hex_glyph d = if nat_lt d 10 then 48 + d else 87 + d

-- the last k hexadecimal digits of a number, highest first
unfoldable pub hex_text : ℕ → ℕ → List ℕ
hex_text zero n = []
hex_text (suc k) n = hex_text k (n / 16) ++ hex_glyph (n % 16) ∷ []
