-- Processes: a user machine's registers with the capabilities that it holds.
use Rattle.std.specs.Prelude.{◌≡◌, ℕ, ◌%◌, ◌==◌, List, length, replicate, slice_index, slice_index_or, slice_set, if◌then◌else◌}
use Rattle.std.specs.List.{All}
use Rattle.cap_format.specs.Capability.{Capability, IsCapability, null}
use Rattle.cap_format.specs.declared.fault.FaultCode.TheVariants.{Stopped}
use Rattle.process_objects.specs.declared.state.State.{State}
use Rattle.process_objects.specs.declared.state.State.TheVariants.{Faulted}
use Rattle.process_objects.specs.State.{IsState}

-- the program counter, the registers x0 to x31, the capability registers c0 to c31, the slots for the space, the
-- schedule and the fault handler, and the state (Coyotos; the register files are RV32I's and this project's)
pub record ProcessValue : Type 0 where
  pub pc : ℕ
  pub regs : List ℕ
  pub capregs : List Capability
  pub slots : List Capability
  pub state : State

-- a process by its parts
abbrev pub process_of : ℕ → List ℕ → List Capability → List Capability → State → ProcessValue
process_of pc regs capregs slots state = record { pc = pc; regs = regs; capregs = capregs; slots = slots; state = state }

-- what each process keeps: x0 is 0 and instructions are aligned (RV32I); c0 is Null, and all capabilities are in
-- their ranges (this project's)
pub record IsProcess (process : ProcessValue) : Type 0 where
  pub aligned : process.pc % 4 ≡ 0
  pub registers : length process.regs ≡ 32
  pub x0 : slice_index process.regs 0 ≡ 0
  pub cap_registers : length process.capregs ≡ 32
  pub c0 : slice_index_or process.capregs 0 null ≡ null
  pub capregs : All IsCapability process.capregs
  pub three : length process.slots ≡ 3
  pub slots : All IsCapability process.slots
  pub state : IsState process.state

-- the number in register `i`, and 0 where there is no such register
abbrev pub reg_of : ProcessValue → ℕ → ℕ
reg_of process i = slice_index process.regs i

-- the capability in capability register `i`, and Null where there is no such register
abbrev pub capreg_of : ProcessValue → ℕ → Capability
capreg_of process i = slice_index_or process.capregs i null

-- the capability in slot `i`: 0 is the space, 1 the schedule, 2 the fault handler
abbrev pub slot_of : ProcessValue → ℕ → Capability
slot_of process i = slice_index_or process.slots i null

-- registers after a write to register `i`: x0 stays 0 (RV32I)
abbrev pub reg_set : List ℕ → ℕ → ℕ → List ℕ
reg_set regs i value = if i == 0 then regs else slice_set regs i value

-- capability registers after a write to register `i`: what goes to c0 is dropped (this project's)
abbrev pub capreg_set : List Capability → ℕ → Capability → List Capability
capreg_set capregs i cap = if i == 0 then capregs else slice_set capregs i cap

-- the process with another pc, and all else the same
abbrev pub with_pc : ProcessValue → ℕ → ProcessValue
with_pc process pc = record process { pc = pc }

-- the process after a write to register `i`, all else the same
abbrev pub with_reg : ProcessValue → ℕ → ℕ → ProcessValue
with_reg process i value = record process { regs = reg_set process.regs i value }

-- the process after a write to all registers, of which x0 stays 0, and all else the same
abbrev pub with_regs : ProcessValue → List ℕ → ProcessValue
with_regs process regs = record process { regs = slice_set regs 0 0 }

-- the process after a write to capability register `i`, all else the same
abbrev pub with_capreg : ProcessValue → ℕ → Capability → ProcessValue
with_capreg process i cap = record process { capregs = capreg_set process.capregs i cap }

-- the process with another capability in slot `i`, and all else the same
abbrev pub with_slot : ProcessValue → ℕ → Capability → ProcessValue
with_slot process i cap = record process { slots = slice_set process.slots i cap }

-- the process with another state, and all else the same
abbrev pub with_state : ProcessValue → State → ProcessValue
with_state process state = record process { state = state }

-- the state of a process that was stopped (this project's)
abbrev pub stopped : State
stopped = Faulted Stopped 0

-- 0 in each register
unfoldable pub empty_regs : List ℕ
empty_regs = replicate 32 0

-- Null in each capability register
unfoldable pub empty_capregs : List Capability
empty_capregs = replicate 32 null

-- Null in each slot
unfoldable pub empty_slots : List Capability
empty_slots = replicate 3 null

-- the empty process: all registers empty, and stopped at 0 (this project's)
abbrev pub empty_process : ProcessValue
empty_process = record { pc = 0; regs = empty_regs; capregs = empty_capregs; slots = empty_slots; state = stopped }
