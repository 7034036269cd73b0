use Rattle.std.proofs.Common.{◌≡◌}
use Rattle.object_parts.specs.Part.{folded_bytes}
use Rattle.object_parts.proofs.feeding.folded_bytes.Given as goal

-- the bytes so far were folded into it
abbrev pub invariant-loop-i : goal.invariant-loop-i
invariant-loop-i l = l.sum ≡ folded_bytes l.start l.bytes l.i
