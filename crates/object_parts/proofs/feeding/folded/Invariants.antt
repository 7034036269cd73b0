use Rattle.std.proofs.Common.{◌≡◌}
use Rattle.object_parts.specs.Part.{folded_twos}
use Rattle.object_parts.proofs.feeding.folded.Given as goal

-- the numbers so far were folded into it
abbrev pub invariant-loop-i : goal.invariant-loop-i
invariant-loop-i l = l.sum ≡ folded_twos l.start l.numbers l.i
