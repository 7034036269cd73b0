-- What is known of ranges of objects of a kind: which of them one domain was assigned. (Own.)
use Rattle.std.specs.Prelude.{◌≡◌, ℕ, ◌<◌, ◌≤◌, ◌^◌, List, length, slice_index, slice_index_or, Option, Some, None}

-- the objects from `from` on and before `end` were all assigned one domain; there are none where `end` isn't above `from`
pub record IsRun (assigned : List (Option ℕ)) (from end : ℕ) : Type 0 where
  pub domain : ℕ
  pub each : (n : ℕ) → from ≤ n → n < end → slice_index_or assigned n None ≡ Some domain

-- beside each object, of which there are as many as a number of 16 bits counts, stands the end of a run that begins with it
pub record KnowsRuns (assigned : List (Option ℕ)) (ends : List ℕ) : Type 0 where
  pub few : length assigned < 2 ^ 16
  pub size : length ends ≡ length assigned
  pub each : (from : ℕ) → IsRun assigned from (slice_index ends from)
