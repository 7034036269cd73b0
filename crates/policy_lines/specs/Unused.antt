-- Lines of a policy without which it holds of a state as well. (Own.)
use Rattle.std.specs.Prelude.{◌==◌, Bool, List, length}
use Rattle.std.specs.List.{Contains, filter}
use Rattle.operations.specs.System.{System}
use Rattle.machine_state.specs.State.{State}
use Rattle.separation_policy.specs.Policy.{PolicyValue, PolicyHolds}
use Rattle.separation_check.specs.Crossings.{crossings_in}
use Rattle.policy_lines.specs.declared.permission.Permission.{Permission}
use Rattle.policy_lines.specs.Permission.{channels_of, without}

-- whether a policy holds of a state: nothing crosses it
abbrev pub holds_in : PolicyValue → State → Bool
holds_in policy s = (length (crossings_in policy s) == 0)

-- the lines `reads` and `writes` of a policy without which it holds, each by itself, in the order of the policy's lines
abbrev pub unused_in : PolicyValue → State → List Permission
unused_in policy s = filter (λ line. holds_in (without policy line) s) (channels_of policy)

-- the policy has this line `reads` or `writes`, and holds without it
pub record IsUnused (policy : PolicyValue) (w : System) (line : Permission) : Type 0 where
  pub there : Contains (channels_of policy) line
  pub holds : PolicyHolds (without policy line) w
