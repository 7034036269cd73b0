-- The GPTs that a walk goes by are there: their numbers are below some number of GPTs.
use Rattle.std.specs.Prelude.{ℕ, ◌<◌, ◌≤◌, Option, Some, None, ⊤}
use Rattle.walk_meaning.specs.declared.at.At.{At}
use Rattle.walk_meaning.specs.declared.step.Step.{Step}
use Rattle.walk_meaning.specs.declared.step.Step.TheVariants.{Reach, Fault, Go}

-- the GPT, if there is one, is below n
abbrev pub Below : ℕ → Option ℕ → Type 0
Below n None = ⊤
Below n (Some g) = g < n

-- the walk's GPTs are below n, and the least size passed is one of a block
pub record IsAt (n : ℕ) (w : At) : Type 0 where
  pub holding : Below n w.holding
  pub background : Below n w.background
  pub handler : Below n w.handler
  pub low : 12 ≤ w.l2
  pub high : w.l2 ≤ 32

-- so are those of a step
abbrev pub GoesBelow : ℕ → Step → Type 0
GoesBelow n (Reach place) = ⊤
GoesBelow n (Fault code handler) = Below n handler
GoesBelow n (Go next g i) = IsAt n next × (g < n) × (i < 16)
