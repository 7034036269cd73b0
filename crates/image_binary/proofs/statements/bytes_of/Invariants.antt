use Rattle.std.proofs.Common.{◌≡◌, take}
use Rattle.image_binary.proofs.statements.bytes_of.Given as goal

-- the bytes so far were copied
abbrev pub invariant-bytes : goal.invariant-bytes
invariant-bytes l = l.bytes ≡ take l.byte-index l.front
