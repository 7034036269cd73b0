use Rattle.std.proofs.Common.{length, sym, ap, ◌∙◌}
use Rattle.shared_leaves.specs.Cache.{SharedCache}
use Rattle.shared_leaves.proofs.shared_leaves.SharedLeaves.frames.Goals as goal

pub returns-clause-keys : goal.returns-clause-keys
returns-clause-keys c = c.used.ensures.value ∙ (sym c.self.invariant.frames ∙ ap (λ (v : SharedCache). length v.keys) c.self.view_is)
