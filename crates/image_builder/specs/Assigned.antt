-- What one statement assigns.
use Rattle.std.specs.Prelude.{ℕ, zero, suc, ◌+◌, ◌<◌, List, Bool, slice_set}
use Rattle.cap_format.specs.Capability.{Capability}
use Rattle.page_store.specs.Page.{with_bytes}
use Rattle.page_store.specs.CapPage.{with_cap}
use Rattle.process_objects.specs.Process.{ProcessValue, with_pc, with_slot, with_reg, with_capreg}
use Rattle.endpoint_objects.specs.declared.endpoint.Endpoint.{Endpoint as EndpointValue}
use Rattle.object_store.specs.declared.sizes.Sizes.{Sizes}
use Rattle.object_store.specs.Store.{CountsValue, Store, page_at, cappage_at, process_at, set_count, set_slot, set_header, with_items, with_page, with_cappage, with_process, with_endpoint, empty_store}
use Rattle.listing_read.specs.declared.statement.Statement.{Statement}
use Rattle.listing_read.specs.declared.statement.Statement.TheVariants.{Page, Code, CapSlot, Gpt, GptSlot, Endpoint, Process, Reg, CapReg, Count, Region}
use Rattle.image_builder.specs.Given.{with_object_count, instruction_bytes, region_cap}

-- empty objects with these counts
abbrev pub empty_with : Sizes → CountsValue → Store
empty_with sizes counts = let s = empty_store sizes in with_items s (record s.items { counts = counts })

-- a process with this pc and these capabilities for its space, its schedule and its fault handler
abbrev pub process_with : ProcessValue → ℕ → Capability → Capability → Capability → ProcessValue
process_with process pc space schedule handler = with_slot (with_slot (with_slot (with_pc process pc) 0 space) 1 schedule) 2 handler

-- an endpoint by its parts
abbrev pub endpoint_of : Capability → ℕ → ℕ → Bool → EndpointValue
endpoint_of recipient id payload matching = record { recipient = recipient; id = id; payload = payload; matching = matching }

-- the objects with the count that a statement assigns
abbrev pub with_count_of : Store → Statement → Store
with_count_of s (Count kind number count) = with_items s (set_count s.items kind number count)
with_count_of s statement = s

-- the objects with a slot of a GPT
abbrev pub with_slot_of : Store → ℕ → ℕ → Capability → Store
with_slot_of s number slot cap = with_items s (set_slot s.items number slot (with_object_count s.items.counts cap))

-- the objects with the first `n` slots of a region, one after the other
unfoldable pub with_region : Store → ℕ → ℕ → ℕ → ℕ → ℕ → Store
with_region s gpt slot page restr zero = s
with_region s gpt slot page restr (suc n) =
    with_slot_of (with_region s gpt slot page restr n) gpt (slot + n) (region_cap (page + n) restr)

-- the objects with what a statement assigns besides counts, its capabilities with the counts of their objects
abbrev pub assigned : Store → Statement → Store
assigned s (Page number at bytes) = with_page s number (with_bytes (page_at s number) at bytes)
assigned s (Code number at insn) = with_page s number (with_bytes (page_at s number) at (instruction_bytes insn))
assigned s (CapSlot number slot cap) = with_cappage s number (with_cap (cappage_at s number) slot (with_object_count s.items.counts cap))
assigned s (Gpt number header) = with_items s (set_header s.items number header)
assigned s (GptSlot number slot cap) = with_slot_of s number slot cap
assigned s (Endpoint number recipient id payload matching) = with_endpoint s number (endpoint_of (with_object_count s.items.counts recipient) id payload matching)
assigned s (Process number pc space schedule handler runs) =
    with_process s number (process_with (process_at s number) pc (with_object_count s.items.counts space) (with_object_count s.items.counts schedule) (with_object_count s.items.counts handler))
assigned s (Reg number index value) = with_process s number (with_reg (process_at s number) index value)
assigned s (CapReg number index cap) = with_process s number (with_capreg (process_at s number) index (with_object_count s.items.counts cap))
assigned s (Region gpt slot count page restr) = with_region s gpt slot page restr.0 count
assigned s (Count kind number count) = s

-- which processes run, with what a statement says of one
abbrev pub flagged : List Bool → Statement → List Bool
flagged flags (Process number pc space schedule handler runs) = slice_set flags number runs
flagged flags statement = flags

-- the number in a `process` statement is below a size
abbrev pub NamesProcess : ℕ → Statement → Type 0
NamesProcess size (Process number pc space schedule handler runs) = number < size
NamesProcess size statement = Unit {0}
