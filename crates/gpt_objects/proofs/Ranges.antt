-- What keeps a GPT in its ranges, and what an empty one holds.
use Rattle.std.proofs.Common.{ℕ, ◌∙◌, arith}
use Rattle.std.proofs.lemmas.List.{length-set, length-replicate}
use Rattle.std.proofs.lemmas.List.Elements.{All-set, All-replicate}
use Rattle.cap_format.specs.Capability.{Capability, IsCapability, null}
use Rattle.cap_format.proofs.Ranges.{IsCapability-null, IsCapability-at}
use Rattle.gpt_objects.specs.Header.{IsHeader, empty_header}
use Rattle.gpt_objects.specs.Gpt.{GptValue, IsGpt, slot_of, with_slot, empty_slots, empty_gpt}

-- each read of a slot gives a capability in its ranges, also past the end
pub IsCapability-slot_of : (gpt : GptValue) (i : ℕ) → IsGpt gpt → IsCapability (slot_of gpt i)
IsCapability-slot_of gpt i is = IsCapability-at gpt.slots i is.slots

-- the empty header is in its range
pub IsHeader-empty_header : IsHeader empty_header
IsHeader-empty_header = record { low = omega arith; high = omega arith }

-- the empty GPT is in its ranges
pub IsGpt-empty_gpt : IsGpt empty_gpt
unfolding empty_slots
IsGpt-empty_gpt = record {
  header = IsHeader-empty_header;
  sixteen = length-replicate 16 null;
  slots = All-replicate IsCapability 16 null IsCapability-null;
}

-- a write to a slot keeps a GPT in its ranges
pub IsGpt-with_slot : (gpt : GptValue) (i : ℕ) (cap : Capability) → IsCapability cap → IsGpt gpt → IsGpt (with_slot gpt i cap)
IsGpt-with_slot gpt i cap in_range is = record {
  header = is.header;
  sixteen = length-set gpt.slots i cap ∙ is.sixteen;
  slots = All-set IsCapability gpt.slots i cap in_range is.slots;
}
