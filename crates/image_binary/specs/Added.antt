-- Bytes that are put together in a buffer.
use Rattle.std.specs.Prelude.{◌≡◌, ℕ, List, ◌++◌}

-- these bytes were added behind the others
pub record Adds (old new bytes : List ℕ) : Type 0 where
  pub whole : new ≡ old ++ bytes
