-- Numbered nodes that stand for states.
use Rattle.std.specs.Prelude.{◌≡◌, ℕ, ◌<◌, Bool, List, length}
use Rattle.reaches_back.specs.Edges.{end_of, AreEdges}
use Rattle.fair_rounds.specs.Table.{is_marked}

-- each node stands for a state of its own, each edge leads where its choice does, and the marks are of the states that are
-- goals, and of those that are first ones
pub record StandsFor {S : Type 0} (next : S → ℕ → S) (goal first : S → Bool) (width : ℕ) (ends : List ℕ) (goals firsts : List Bool) (means : ℕ → S) : Type 0 where
  pub edges : AreEdges width ends (length goals)
  pub leads : (at c : ℕ) → at < length goals → c < width → means (end_of width ends at c) ≡ next (means at) c
  pub passed : (at : ℕ) → at < length goals → is_marked goals at ≡ goal (means at)
  pub begun : (at : ℕ) → at < length goals → is_marked firsts at ≡ first (means at)
  pub apart : (a b : ℕ) → a < length goals → b < length goals → means a ≡ means b → a ≡ b
