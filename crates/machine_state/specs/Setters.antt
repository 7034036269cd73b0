-- What one change makes of a state. All else stays the same.
use Rattle.std.specs.Prelude.{ℕ, true, List, Option, Some, None}
use Rattle.cap_format.specs.Capability.{Capability}
use Rattle.process_objects.specs.Process.{ProcessValue, with_pc, with_regs, with_capreg}
use Rattle.rv32_user.specs.Word.{next_of}
use Rattle.object_store.specs.Store.{Store, with_page, with_cappage, with_process}
use Rattle.schedules.specs.Queues.{QueuesValue, left, dispatched}
use Rattle.schedules.specs.Ready.{Runs, runs_of, with_processes, readied}
use Rattle.operations.specs.System.{System}
use Rattle.machine_state.specs.State.{State, process, pc_of, schedule_slot}

-- these objects in the place of the state's
abbrev pub set_store : State → Store → State
set_store s store = record { store = store; queues = s.queues; halted = s.halted }

-- these queues and harts in the place of the state's
abbrev pub set_queues : State → QueuesValue → State
set_queues s queues = record { store = s.store; queues = queues; halted = s.halted }

-- these objects and queues in the place of the state's
abbrev pub set_system : State → System → State
set_system s w = record { store = w.store; queues = w.queues; halted = s.halted }

-- the machine is halted: nothing happens to it any more (this project's)
abbrev pub halted : State → State
halted s = record { store = s.store; queues = s.queues; halted = true }

-- another process in the place of process `p`
abbrev pub set_process : State → ℕ → ProcessValue → State
set_process s p value = set_store s (with_process s.store p value)

-- other bytes of page `n`
abbrev pub set_page : State → ℕ → List ℕ → State
set_page s n page = set_store s (with_page s.store n page)

-- other slots of capability page `n`
abbrev pub set_cappage : State → ℕ → List Capability → State
set_cappage s n page = set_store s (with_cappage s.store n page)

-- another pc of process `p`
abbrev pub set_pc : State → ℕ → ℕ → State
set_pc s p pc = set_process s p (with_pc (process s p) pc)

-- other registers x0 to x31 of process `p`; what goes to x0 is lost
abbrev pub set_registers : State → ℕ → List ℕ → State
set_registers s p registers = set_process s p (with_regs (process s p) registers)

-- another capability in the register c`i` of process `p`; what goes to c0 is lost
abbrev pub set_capreg : State → ℕ → ℕ → Capability → State
set_capreg s p i cap = set_process s p (with_capreg (process s p) i cap)

-- the process goes on behind its instruction (RV32I)
abbrev pub advance : State → ℕ → State
advance s p = set_pc s p (next_of (pc_of s p))

-- the process leaves the place where it stands (Coyotos)
abbrev pub leave : State → ℕ → State
leave s p = set_queues s (left s.queues p)

-- processes as they run, with their places
abbrev pub set_runs : State → Runs → State
set_runs s r = record { store = with_processes s.store r.processes; queues = r.queues; halted = s.halted }

-- the process is made ready: it runs, as the last of its schedule's queue, or is faulted for want of a schedule (Coyotos)
abbrev pub ready : State → ℕ → State
ready s p = set_runs s (readied (schedule_slot s p) p (runs_of s.store s.queues))

-- the process goes on behind its instruction, and to the end of its queue (call yield)
abbrev pub yielded : State → ℕ → State
yielded s p = ready (leave (advance s p) p) p

-- a hart without a process takes the first of the highest ready queue
abbrev pub dispatch : State → ℕ → State
dispatch s hart = set_queues s (dispatched s.queues hart)

-- a tick of a hart with this process, which goes to the end of its queue
abbrev pub ticked : State → Option ℕ → State
ticked s None = s
ticked s (Some p) = ready (leave s p) p
