-- The numbers of faults and of replies (this project's own).
use Rattle.std.specs.Prelude.{ℕ}
use Rattle.cap_format.specs.declared.fault.FaultCode.{FaultCode}
use Rattle.cap_format.specs.declared.fault.FaultCode.TheVariants.{Stopped, InvalidDataReference, InvalidCapReference, DataAccessTypeError, CapAccessTypeError, AccessViolation, MalformedSpace, NoSchedule, MalformedSyscall, BadAlign, BadOpcode, Breakpoint}
use Rattle.cap_format.specs.declared.code.Code.{Code}
use Rattle.cap_format.specs.declared.code.Code.TheVariants.{Ok as OkCode, InvalidCap, UnknownRequest, NoAccess, RequestError, CountSpent, WouldBlock}

-- the number of a fault
abbrev pub fault_number : FaultCode → ℕ
fault_number Stopped = 0
fault_number InvalidDataReference = 1
fault_number InvalidCapReference = 2
fault_number DataAccessTypeError = 3
fault_number CapAccessTypeError = 4
fault_number AccessViolation = 5
fault_number MalformedSpace = 6
fault_number NoSchedule = 7
fault_number MalformedSyscall = 8
fault_number BadAlign = 9
fault_number BadOpcode = 10
fault_number Breakpoint = 11

-- the number of a reply's code
abbrev pub reply_number : Code → ℕ
reply_number OkCode = 0
reply_number InvalidCap = 1
reply_number UnknownRequest = 2
reply_number NoAccess = 3
reply_number RequestError = 4
reply_number CountSpent = 5
reply_number WouldBlock = 6
