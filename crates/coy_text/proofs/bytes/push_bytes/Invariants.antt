use Rattle.std.proofs.Common.{◌≡◌, ◌+◌, ◌*◌, ◌++◌, length, take}
use Rattle.coy_text.specs.Bytes.{bytes_text}
use Rattle.coy_text.proofs.bytes.push_bytes.Given as goal

-- the bytes so far have their digits
abbrev pub invariant-bytes : goal.invariant-bytes
invariant-bytes l = record {
  text : l.line ≡ l.fn.line ++ bytes_text (take l.byte-index l.bytes);
  len : length l.line ≡ length l.fn.line + 2 * l.byte-index;
}
