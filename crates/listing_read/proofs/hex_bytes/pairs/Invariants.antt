use Rattle.std.proofs.Common.{◌≡◌, ◌++◌, ◌*◌, length, drop}
use Rattle.std.specs.Prelude.{option_map}
use Rattle.listing_read.specs.Bytes.{bytes_of}
use Rattle.listing_read.proofs.hex_bytes.pairs.Given as goal

abbrev pub invariant-pairs : goal.invariant-pairs
invariant-pairs l =
    record {
      count : length l.bytes ≡ l.i;
      rest : option_map (λ rest. l.bytes ++ rest) (bytes_of (drop (2 * l.i) l.digits)) ≡ bytes_of l.digits;
    }
