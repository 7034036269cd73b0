use Rattle.std.proofs.Common.{◌≡◌, ◌<◌, ◌^◌, drop}
use Rattle.coy_text.specs.Numeral.{value_on, hex_digit}
use Rattle.coy_text.proofs.numeral.read_hex.Given as goal

abbrev pub invariant-loop-byte : goal.invariant-loop-byte
invariant-loop-byte l =
    (l.value < 16 ^ l.byte-index)
    × (value_on 16 hex_digit l.value (drop l.byte-index l.word) ≡ value_on 16 hex_digit 0 l.word)
