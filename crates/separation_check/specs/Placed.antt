-- Nothing crosses exactly where the policy holds, of any state whose objects have their places. (Own.)
use Rattle.std.specs.Prelude.{◌≡◌, ◌↔◌, []}
use Rattle.machine_state.specs.State.{State}
use Rattle.confinement.specs.Acts.{system_of}
use Rattle.run_places.specs.Places.{HasPlaces}
use Rattle.separation_policy.specs.Policy.{PolicyValue, PolicyHolds}
use Rattle.separation_check.specs.Crossings.{crossings_in}

-- no crossing is told of such a state exactly where the policy holds
abbrev pub ExactlyLaw : Type 0
ExactlyLaw = (policy : PolicyValue) (s : State) → HasPlaces s.store → (crossings_in policy s ≡ []) ↔ PolicyHolds policy (system_of s)
