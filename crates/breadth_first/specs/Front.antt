-- Lists that others begin with.
use Rattle.std.specs.Prelude.{◌≡◌, List, ◌++◌}

-- `ys` begins with `xs`
pub record Front {X : Type 0} (xs ys : List X) : Type 0 where
  pub rest : List X
  pub is : ys ≡ xs ++ rest
