-- Faults: what becomes of a process that can't go on, and what is told of it. (Coyotos; which handler is asked first, and
-- the records, are this project's.)
use Rattle.std.specs.Prelude.{ℕ, List, [], ◌∷◌, Option, Some, None}
use Rattle.cap_format.specs.Capability.{Capability}
use Rattle.cap_format.specs.declared.fault.FaultCode.{FaultCode}
use Rattle.cap_format.specs.declared.fault.FaultCode.TheVariants.{BadAlign, MalformedSyscall}
use Rattle.fault_path.specs.declared.outcome.Outcome.{Outcome as Became}
use Rattle.fault_path.specs.declared.outcome.Outcome.TheVariants.{Delivered, MustWait, Unheard}
use Rattle.fault_path.specs.Fault.{heard_by, outcome_of, fault_names}
use Rattle.machine_state.specs.declared.record.Record.{Record}
use Rattle.machine_state.specs.declared.record.Record.TheVariants.{Fault}
use Rattle.machine_state.specs.State.{State, pc_of}
use Rattle.machine_state.specs.Faulting.{fault_state}
use Rattle.machine_state.specs.Outcome.{Outcome}

-- the record of a fault, by what became of it: none is made where the process waits, since it faults again later
abbrev pub fault_records : ℕ → FaultCode → ℕ → Became → List Record
fault_records p code address (Delivered q) = Fault p code address (Some q) ∷ []
fault_records p code address Unheard = Fault p code address None ∷ []
fault_records p code address (MustWait q) = []

-- a fault of a process with the handler that its walk gave, if it gave one
unfoldable pub fault : State → ℕ → FaultCode → ℕ → Option Capability → Outcome
fault s p code address handler =
    let answer = heard_by s.store p handler in
    record {
      state = fault_state s p code address handler;
      records = fault_records p code address (outcome_of answer);
      touches = [];
      changed = fault_names p answer;
    }

-- an address that is no multiple of what it has to be
abbrev pub misaligned : State → ℕ → ℕ → Outcome
misaligned s p address = fault s p BadAlign address None

-- a system call that is none
abbrev pub malformed : State → ℕ → Outcome
malformed s p = fault s p MalformedSyscall (pc_of s p) None
