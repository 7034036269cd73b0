use Rattle.std.proofs.Common.{◌≡◌, replicate, ap, sym, subst}
use Rattle.cap_format.specs.Capability.{Capability, null}
use Rattle.process_objects.specs.Process.{ProcessValue, IsProcess, process_of, stopped, empty_regs, empty_capregs, empty_slots, empty_process}
use Rattle.process_objects.proofs.Ranges.{IsProcess-empty_process}
use Rattle.process_objects.proofs.process.Process.new.Goals as goal

-- a process of zeros and of one capability throughout
abbrev filled : Capability → ProcessValue
filled cap = process_of 0 (replicate 32 0) (replicate 32 cap) (replicate 3 cap) stopped

is_empty : (cap : Capability) → cap ≡ null → filled cap ≡ empty_process
unfolding empty_regs empty_capregs empty_slots
is_empty cap same = ap filled same

pub invariant_of-result : goal.invariant_of-result
invariant_of-result c = subst IsProcess (sym (is_empty _ c.null-null.ensures)) IsProcess-empty_process

pub returns-clause-empty : goal.returns-clause-empty
returns-clause-empty c = is_empty _ c.null-null.ensures

pub returns-clause-range : goal.returns-clause-range
returns-clause-range c = subst IsProcess (sym (is_empty _ c.null-null.ensures)) IsProcess-empty_process
