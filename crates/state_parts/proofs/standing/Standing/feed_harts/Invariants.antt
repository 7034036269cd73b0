use Rattle.std.proofs.Common.{◌≡◌, take}
use Rattle.std.specs.Prelude.{fold}
use Rattle.std.specs.List.{flat_map}
use Rattle.state_parts.specs.Standing.{hashed_hart}
use Rattle.state_parts.proofs.standing.Standing.feed_harts.Given as goal

-- the harts so far were fed
abbrev pub invariant-loop-i : goal.invariant-loop-i
invariant-loop-i g l = l.state ≡ fold g.H.Hasher.write l.fn.state (flat_map hashed_hart (take l.i l.self.queues.harts))
