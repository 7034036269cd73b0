-- What is decided of a policy is whether it holds.
use Rattle.std.proofs.Common.{◌≡◌, ◌↔◌, true, List, sym, subst}
use Rattle.std.specs.List.{Contains}
use Rattle.confine_check.specs.Full.{AreFull}
use Rattle.confinement.specs.Acts.{system_of}
use Rattle.machine_state.specs.Machine.{MachineValue}
use Rattle.machine_state.specs.State.{state_of}
use Rattle.separation_policy.specs.Policy.{PolicyValue, PolicyHolds}
use Rattle.separation_check.specs.Crossings.{crossings_in}
use Rattle.separation_check.proofs.Exactly.{crossings-exactly}
use Rattle.policy_lines.specs.declared.permission.Permission.{Permission}
use Rattle.policy_lines.specs.Permission.{channels_of, without}
use Rattle.policy_lines.specs.Unused.{holds_in, unused_in, IsUnused}
use Rattle.policy_lines.specs.Needed.{IsExact}
use Rattle.policy_lines.proofs.Filtered.{empty, none, passed-is, is-passed}

module _ {T : Type 0} (m : MachineValue T) (full : AreFull m.objects) where
  -- so it is of every policy
  pub exact : IsExact (state_of m)
  exact policy = crossings-exactly policy m.objects m.queues full

  pub decided : (policy : PolicyValue) → (holds_in policy (state_of m) ≡ true) ↔ PolicyHolds policy (system_of (state_of m))
  decided policy =
      let law = crossings-exactly policy m.objects m.queues full in
      (λ none_found. law.0 (empty (crossings_in policy (state_of m)) none_found), λ holds. none (crossings_in policy (state_of m)) (law.1 holds))

  -- what is told is each line that is unused, and no other
  pub each-unused : (policy : PolicyValue) (found : List Permission) → found ≡ unused_in policy (state_of m)
      → (line : Permission) → Contains found line ↔ IsUnused policy (system_of (state_of m)) line
  each-unused policy found is line = (
    λ at.
        let passed = passed-is (λ line. holds_in (without policy line) (state_of m)) (channels_of policy) line (subst (λ (lines : List Permission). Contains lines line) is at) in
        record { there = passed.0; holds = (decided (without policy line)).0 passed.1 },
    λ so.
        subst (λ (lines : List Permission). Contains lines line) (sym is)
        (is-passed (λ line. holds_in (without policy line) (state_of m)) (channels_of policy) line so.there ((decided (without policy line)).1 so.holds)),
  )
