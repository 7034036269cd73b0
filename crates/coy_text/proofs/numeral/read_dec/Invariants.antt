use Rattle.std.proofs.Common.{◌≡◌, ◌<◌, ◌^◌, drop}
use Rattle.coy_text.specs.Numeral.{value_on, dec_digit}
use Rattle.coy_text.proofs.numeral.read_dec.Given as goal

abbrev pub invariant-loop-byte : goal.invariant-loop-byte
invariant-loop-byte l =
    (l.value < 10 ^ l.byte-index)
    × (value_on 10 dec_digit l.value (drop l.byte-index l.word) ≡ value_on 10 dec_digit 0 l.word)
