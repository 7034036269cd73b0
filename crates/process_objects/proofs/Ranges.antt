-- What keeps a process in its ranges.
use Rattle.std.proofs.Common.{ℕ, ◌≢◌, ◌∙◌, refl, slice_set}
use Rattle.std.proofs.lemmas.List.{length-set, get_or-set_other}
use Rattle.std.proofs.lemmas.List.Elements.{All-set, All-replicate}
use Rattle.cap_format.specs.Capability.{Capability, IsCapability, null}
use Rattle.cap_format.proofs.Ranges.{IsCapability-null, IsCapability-at}
use Rattle.process_objects.specs.Process.{ProcessValue, IsProcess, capreg_of, slot_of, empty_regs, empty_capregs, empty_slots, empty_process}

-- the empty process is in its ranges
pub IsProcess-empty_process : IsProcess empty_process
unfolding empty_regs empty_capregs empty_slots
IsProcess-empty_process = record {
  aligned = refl;
  registers = refl;
  x0 = refl;
  cap_registers = refl;
  c0 = refl;
  capregs = All-replicate IsCapability 32 null IsCapability-null;
  three = refl;
  slots = All-replicate IsCapability 3 null IsCapability-null;
  state = tt;
}

-- a write to a capability register other than c0 keeps a process in its ranges
pub IsProcess-capreg : (process : ProcessValue) (i : ℕ) (cap : Capability) → 0 ≢ i → IsCapability cap → IsProcess process → IsProcess (record process { capregs = slice_set process.capregs i cap })
IsProcess-capreg process i cap other in_range is = record {
  aligned = is.aligned;
  registers = is.registers;
  x0 = is.x0;
  cap_registers = length-set process.capregs i cap ∙ is.cap_registers;
  c0 = get_or-set_other process.capregs i 0 cap null other ∙ is.c0;
  capregs = All-set IsCapability process.capregs i cap in_range is.capregs;
  three = is.three;
  slots = is.slots;
  state = is.state;
}

-- each read of a capability register gives a capability in its ranges, also past the end
pub IsCapability-capreg_of : (process : ProcessValue) (i : ℕ) → IsProcess process → IsCapability (capreg_of process i)
IsCapability-capreg_of process i is = IsCapability-at process.capregs i is.capregs

-- so does each read of a slot
pub IsCapability-slot_of : (process : ProcessValue) (i : ℕ) → IsProcess process → IsCapability (slot_of process i)
IsCapability-slot_of process i is = IsCapability-at process.slots i is.slots
