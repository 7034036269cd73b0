-- Events: one step of a hart, or one tick of its timer. Each is atomic.
use Rattle.std.specs.Prelude.{ℕ, if◌then◌else◌, [], Option, Some, None, Result, Ok, Err}
use Rattle.cap_format.specs.declared.fault.FaultCode.TheVariants.{BadOpcode}
use Rattle.rv32_decode.specs.declared.insn.Insn.{Insn}
use Rattle.rv32_decode.specs.Table.{insn_at}
use Rattle.walk_meaning.specs.declared.kind.Kind.TheVariants.{Fetch}
use Rattle.walk_meaning.specs.declared.place.WalkFault.{WalkFault}
use Rattle.walk_engine.specs.declared.hit.Hit.{Hit}
use Rattle.schedules.specs.Queues.{hart_of}
use Rattle.machine_state.specs.declared.event.Event.{Event}
use Rattle.machine_state.specs.declared.event.Event.TheVariants.{Step, Tick}
use Rattle.machine_state.specs.declared.record.Record.TheVariants.{Insn as InsnRead}
use Rattle.machine_state.specs.State.{State, pc_of}
use Rattle.machine_state.specs.Setters.{dispatch, ticked}
use Rattle.machine_state.specs.Outcome.{Outcome, process_name, names_on, done, recorded, touched, changing}
use Rattle.messages.specs.Fault.{fault}
use Rattle.machine_state.specs.DataAccess.{data_access, data_touch, reached, number_at}
use Rattle.kernel_core.specs.Instruction.{perform}

-- the word that was fetched: an instruction, or none of the table
abbrev pub decoded_to : State → ℕ → Option Insn → Outcome
decoded_to s p None = fault s p BadOpcode (pc_of s p) None
decoded_to s p (Some insn) = recorded (InsnRead p (pc_of s p) insn) (perform s p insn)

-- the fetch at a process's pc
abbrev pub fetched_from : State → ℕ → Result Hit WalkFault → Outcome
fetched_from s p (Err f) = fault s p f.code (pc_of s p) f.handler
fetched_from s p (Ok hit) = recorded (reached p Fetch (pc_of s p) hit) (decoded_to s p (insn_at (number_at s hit 4)))

-- one instruction of a process: its fetch, then what the word says
unfoldable pub instruction : State → ℕ → Outcome
instruction s p =
    changing (process_name p)
    (touched (data_touch s p (pc_of s p) Fetch) (fetched_from s p (data_access s p (pc_of s p) Fetch)))

-- a step of a hart with this process
abbrev pub stepped : State → Option ℕ → Outcome
stepped s None = done s
stepped s (Some p) = instruction s p

-- such a tick, of which nothing is told
abbrev pub tick_of : State → Option ℕ → Outcome
tick_of s on = record { state = ticked s on; records = []; touches = []; changed = names_on on }

-- who performs an event of a machine that is not halted: the process that the hart has or takes, and at a tick the one
-- that it has
abbrev pub performer_by : State → Event → Option ℕ
performer_by s (Step hart) = hart_of (dispatch s hart).queues hart
performer_by s (Tick hart) = hart_of s.queues hart

-- who performs an event, if anybody does
abbrev pub performer : State → Event → Option ℕ
performer s e = if s.halted then None else performer_by s e

-- an event of a machine that is not halted
unfoldable pub event_by : State → Event → Outcome
event_by s (Step hart) = stepped (dispatch s hart) (performer_by s (Step hart))
event_by s (Tick hart) = tick_of s (performer_by s (Tick hart))

-- an event: nothing happens to a machine that is halted
abbrev pub event_of : State → Event → Outcome
event_of s e = if s.halted then done s else event_by s e
