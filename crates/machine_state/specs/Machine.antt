-- A machine as the code holds it, and what it keeps.
use Rattle.std.specs.Prelude.{◌≡◌, ℕ, ◌<◌, Bool, length}
use Rattle.cap_format.specs.declared.kind.CapKind.TheVariants.{Process}
use Rattle.object_store.specs.Store.{Store, size_of, process_at}
use Rattle.object_store.specs.Ahead.{NoneAhead}
use Rattle.schedules.specs.Queues.{QueuesValue}
use Rattle.schedules.specs.Ready.{Agrees, runs_of, places_due}
use Rattle.rv32_decode.specs.InRange.{InRange}
use Rattle.machine_state.specs.declared.event.Event.{Event}
use Rattle.machine_state.specs.declared.event.Event.TheVariants.{Step, Tick}
use Rattle.machine_state.specs.declared.record.Record.{Record}
use Rattle.machine_state.specs.declared.record.Record.TheVariants.{Access, Insn as InsnRead, Message, Fault, Log, Destroy, Halt}

-- its objects, who stands where, whether it is halted, and its translator
pub record MachineValue (T : Type 0) : Type 0 where
  pub objects : Store
  pub queues : QueuesValue
  pub halted : Bool
  pub translator : T

-- the queues have the sizes of the objects
pub record Fits (s : Store) (q : QueuesValue) : Type 0 where
  pub processes : length q.sleepers ≡ size_of s.items Process
  pub harts : length q.harts ≡ s.harts

-- what a machine keeps besides: a process that runs stands in one place and any other in none, and no capability is
-- ahead of its object
pub record IsMachine (s : Store) (q : QueuesValue) : Type 0 where
  pub fits : Fits s q
  pub agrees : Agrees (runs_of s q)
  pub behind : NoneAhead s

-- no process runs
abbrev pub NoneRuns : Store → Type 0
NoneRuns s = (p : ℕ) → p < size_of s.items Process → places_due (process_at s p).state ≡ 0

-- the hart of an event
abbrev pub hart_in : Event → ℕ
hart_in (Step hart) = hart
hart_in (Tick hart) = hart

-- an instruction that a record names has its operands in their ranges
abbrev pub IsRecord : Record → Type 0
IsRecord (Access process kind address number) = Unit {0}
IsRecord (InsnRead process at insn) = InRange insn
IsRecord (Message from to endpoint payload words length caps) = Unit {0}
IsRecord (Fault process code address to) = Unit {0}
IsRecord (Log process bytes) = Unit {0}
IsRecord (Destroy kind number) = Unit {0}
IsRecord (Halt process) = Unit {0}
