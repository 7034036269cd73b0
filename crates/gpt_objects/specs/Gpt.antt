-- GPTs: a header and sixteen capability slots.
use Rattle.std.specs.Prelude.{◌≡◌, ℕ, List, length, replicate, slice_index_or, slice_set}
use Rattle.std.specs.List.{All}
use Rattle.cap_format.specs.Capability.{Capability, IsCapability, null}
use Rattle.gpt_objects.specs.Header.{HeaderValue, IsHeader, empty_header}

-- a guarded page table (Coyotos)
pub record GptValue : Type 0 where
  pub header : HeaderValue
  pub slots : List Capability

-- what each GPT keeps: its header and all of its sixteen capabilities are in their ranges (this project's)
pub record IsGpt (gpt : GptValue) : Type 0 where
  pub header : IsHeader gpt.header
  pub sixteen : length gpt.slots ≡ 16
  pub slots : All IsCapability gpt.slots

-- the capability in slot `i`, and Null where there is no such slot
abbrev pub slot_of : GptValue → ℕ → Capability
slot_of gpt i = slice_index_or gpt.slots i null

-- the GPT with another header and the same slots
abbrev pub with_header : GptValue → HeaderValue → GptValue
with_header gpt header = record gpt { header = header }

-- the GPT with another capability in slot `i`, and all else the same
abbrev pub with_slot : GptValue → ℕ → Capability → GptValue
with_slot gpt i cap = record gpt { slots = slice_set gpt.slots i cap }

-- sixteen times Null
unfoldable pub empty_slots : List Capability
empty_slots = replicate 16 null

-- the empty GPT: the empty header, and Null in each slot (this project's)
abbrev pub empty_gpt : GptValue
empty_gpt = record { header = empty_header; slots = empty_slots }
