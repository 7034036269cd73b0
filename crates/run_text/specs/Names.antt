-- Names in the output (this project's own).
use Rattle.std.specs.Prelude.{ℕ, List, codes}
use Rattle.cap_format.specs.declared.fault.FaultCode.{FaultCode}
use Rattle.cap_format.specs.declared.fault.FaultCode.TheVariants.{Stopped, InvalidDataReference, InvalidCapReference, DataAccessTypeError, CapAccessTypeError, AccessViolation, MalformedSpace, NoSchedule, MalformedSyscall, BadAlign, BadOpcode, Breakpoint}
use Rattle.walk_meaning.specs.declared.kind.Kind.{Kind}
use Rattle.walk_meaning.specs.declared.kind.Kind.TheVariants.{Fetch, Load, Store, CapLoad, CapStore}

-- a fault
abbrev pub fault_name : FaultCode → List ℕ
fault_name Stopped = codes "Stopped"
fault_name InvalidDataReference = codes "InvalidDataReference"
fault_name InvalidCapReference = codes "InvalidCapReference"
fault_name DataAccessTypeError = codes "DataAccessTypeError"
fault_name CapAccessTypeError = codes "CapAccessTypeError"
fault_name AccessViolation = codes "AccessViolation"
fault_name MalformedSpace = codes "MalformedSpace"
fault_name NoSchedule = codes "NoSchedule"
fault_name MalformedSyscall = codes "MalformedSyscall"
fault_name BadAlign = codes "BadAlign"
fault_name BadOpcode = codes "BadOpcode"
fault_name Breakpoint = codes "Breakpoint"

-- a kind of accesses
abbrev pub access_name : Kind → List ℕ
access_name Fetch = codes "fetch"
access_name Load = codes "load"
access_name Store = codes "store"
access_name CapLoad = codes "capload"
access_name CapStore = codes "capstore"

-- what an access of this kind reaches
abbrev pub target_name : Kind → List ℕ
target_name CapLoad = codes "cappage"
target_name CapStore = codes "cappage"
target_name _ = codes "page"
