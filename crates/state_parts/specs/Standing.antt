-- Who stands where, with whether the machine is halted.
use Rattle.std.specs.Prelude.{ℕ, Bool, false, ◌&&◌, [], ◌++◌, Option, Some, None}
use Rattle.std.specs.Bool.{beq}
use Rattle.std.specs.List.{flat_map}
use Rattle.std.specs.Hash as fed
use Rattle.schedules.specs.Queues.{QueuesValue}
use Rattle.machine_state.specs.Machine.{MachineValue}
use Rattle.state_parts.specs.Same.{same_queues}

-- the queues with the harts, and whether a process halted the machine
pub record StandingValue : Type 0 where
  pub queues : QueuesValue
  pub halted : Bool

-- those of a machine
abbrev pub standing_at : {T : Type 0} → MachineValue T → StandingValue
standing_at m = record { queues = m.queues; halted = m.halted }

-- no queue and no hart
abbrev pub nowhere : StandingValue
nowhere = record { queues = record { ready = []; sleepers = []; harts = [] }; halted = false }

-- equality, as it is computed
abbrev pub same_standing : StandingValue → StandingValue → Bool
same_standing a b = beq a.halted b.halted && same_queues a.queues b.queues

-- what is hashed of a hart
abbrev pub hashed_hart : Option ℕ → fed.HashWrites
hashed_hart None = fed.u16 65535
hashed_hart (Some p) = fed.u16 p

-- what is hashed of a standing: who is on the harts, and whether it is halted
abbrev pub hashed_standing : StandingValue → fed.HashWrites
hashed_standing s = fed.bool s.halted ++ flat_map hashed_hart s.queues.harts
