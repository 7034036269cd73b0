-- The abstract machine's state: what the objects mean, who stands where, and whether it is halted. Its capabilities have
-- no count, so each is read as it stands: what `meaning` or `live` would make of one here is not what it means.
use Rattle.std.specs.Prelude.{ℕ, Bool, ◌≡◌, Some}
use Rattle.cap_format.specs.Capability.{Capability}
use Rattle.process_objects.specs.Process.{ProcessValue, reg_of, slot_of}
use Rattle.object_store.specs.Store.{Store, process_at}
use Rattle.object_store.specs.Meaning.{state_map}
use Rattle.schedules.specs.Queues.{QueuesValue, hart_of}
use Rattle.machine_state.specs.Machine.{MachineValue}

-- the objects as they mean, the queues with the harts, and whether a process halted the machine
pub record State : Type 0 where
  pub store : Store
  pub queues : QueuesValue
  pub halted : Bool

-- the state that a machine means: each capability that is not live is Null (Coyotos)
abbrev pub state_of : {T : Type 0} → MachineValue T → State
state_of m = record { store = state_map m.objects; queues = m.queues; halted = m.halted }

-- process `p`, the empty one where there is none
abbrev pub process : State → ℕ → ProcessValue
process s p = process_at s.store p

-- the address of the instruction that process `p` performs next
abbrev pub pc_of : State → ℕ → ℕ
pc_of s p = (process s p).pc

-- the register x`i` of process `p`
abbrev pub register_of : State → ℕ → ℕ → ℕ
register_of s p i = reg_of (process s p) i

-- the slot of a process that holds its space (Coyotos; the numbers of slots are this project's)
abbrev pub space_slot : ℕ
space_slot = 0

-- the slot of a process that holds its schedule
abbrev pub schedule_slot_number : ℕ
schedule_slot_number = 1

-- the capability in the slot for the space of process `p`, in which its accesses are walked (Coyotos)
abbrev pub space_of : State → ℕ → Capability
space_of s p = slot_of (process s p) space_slot

-- the capability in the slot for the schedule of process `p`, which says in what queue it is made ready (Coyotos)
abbrev pub schedule_slot : State → ℕ → Capability
schedule_slot s p = slot_of (process s p) schedule_slot_number

-- the process stands on a hart
pub record IsOnHart (q : QueuesValue) (p : ℕ) : Type 0 where
  pub hart : ℕ
  pub there : hart_of q hart ≡ Some p
