-- What every policy that is made keeps. (Own.)
use Rattle.std.specs.Prelude.{◌<◌, ◌≤◌, ◌^◌, length}
use Rattle.separation_policy.specs.Policy.{PolicyValue}

-- at most 64 domains, and as many objects of each kind as a number of 16 bits counts
pub record IsPolicy (policy : PolicyValue) : Type 0 where
  pub few : length policy.domains ≤ 64
  pub pages : length policy.assigned.pages < 2 ^ 16
  pub cappages : length policy.assigned.cappages < 2 ^ 16
  pub gpts : length policy.assigned.gpts < 2 ^ 16
  pub processes : length policy.assigned.processes < 2 ^ 16
  pub endpoints : length policy.assigned.endpoints < 2 ^ 16
