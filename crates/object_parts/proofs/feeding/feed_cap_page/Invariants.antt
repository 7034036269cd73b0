use Rattle.std.proofs.Common.{◌≡◌, take}
use Rattle.std.specs.Prelude.{fold}
use Rattle.object_parts.specs.Part.{hashed_caps}
use Rattle.object_parts.proofs.feeding.feed_cap_page.Given as goal

-- the slots so far were fed
abbrev pub invariant-loop-i : goal.invariant-loop-i
invariant-loop-i g l = l.state ≡ fold g.H.Hasher.write l.fn.state (hashed_caps (take l.i l.page))
