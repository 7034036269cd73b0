-- The laws: the line that is printed for a thing is read as the statement of that thing, in a listing of version 1. Their premises are the ranges
-- of the values' types, that a machine of these sizes has what the statement names, and that the thing is not as in the
-- empty object, for which nothing is printed. No word shows a count, so capabilities are read without theirs.
use Rattle.std.specs.Prelude.{ℕ, ◌≡◌, ◌^◌, ◌<◌, ◌≤◌, ◌==◌, Bool, true, false, List, length, codes, Option, Some, None}
use Rattle.std.specs.List.{All, list_all}
use Rattle.cap_format.specs.declared.kind.CapKind.{CapKind}
use Rattle.cap_format.specs.declared.fault.FaultCode.TheVariants.{Stopped}
use Rattle.cap_format.specs.Capability.{Capability, IsCapability, bare}
use Rattle.gpt_objects.specs.Header.{HeaderValue, IsHeader}
use Rattle.process_objects.specs.declared.state.State.{State}
use Rattle.process_objects.specs.declared.state.State.TheVariants.{Running, Faulted}
use Rattle.process_objects.specs.Process.{ProcessValue, IsProcess, slot_of}
use Rattle.endpoint_objects.specs.declared.endpoint.Endpoint.{Endpoint}
use Rattle.object_store.specs.Ranges.{IsWithinLimits}
use Rattle.object_store.specs.declared.sizes.Sizes.{Sizes}
use Rattle.listing_read.specs.declared.statement.Statement.TheVariants as says
use Rattle.listing_read.specs.Terms.{terms_of}
use Rattle.listing_read.specs.declared.terms.Version.TheVariants.{One}
use Rattle.listing_read.specs.Statement.{IsStatement}
use Rattle.run_text.specs.Objects.{is_null, is_empty_header, is_empty_endpoint, is_empty_process, count_text, row_text, slot_text, header_text, endpoint_text, process_text, register_text}
use Rattle.statement_text.specs.ReadsBack.{ReadsBack}

-- the line of a count that is not 0
abbrev pub CountsReadBack : Type 0
CountsReadBack =
    (sizes : Sizes) (kind : CapKind) (n count : ℕ) → IsWithinLimits sizes →
    IsStatement sizes (says.Count kind n count) →
    1 ≤ count → ReadsBack (terms_of One sizes) (count_text kind n count) (says.Count kind n count)

-- the line of a row of sixteen bytes of a page, not all of them 0
abbrev pub RowsReadBack : Type 0
RowsReadBack =
    (sizes : Sizes) (n at : ℕ) (bytes : List ℕ) → IsWithinLimits sizes → IsStatement sizes (says.Page n at bytes) →
    length bytes ≡ 16 → All (λ byte. byte < 256) bytes →
    list_all (λ byte. byte == 0) bytes ≡ false → ReadsBack (terms_of One sizes) (row_text n at bytes) (says.Page n at bytes)

-- the line of a slot of a capability page that is not Null
abbrev pub CapPageSlotsReadBack : Type 0
CapPageSlotsReadBack =
    (sizes : Sizes) (n i : ℕ) (c : Capability) → IsWithinLimits sizes →
    IsStatement sizes (says.CapSlot n i (bare c)) → i < 256 → IsCapability c →
    is_null c ≡ false → ReadsBack (terms_of One sizes) (slot_text (codes "cap") n i c) (says.CapSlot n i (bare c))

-- the line of a header of a GPT that is not the empty one
abbrev pub HeadersReadBack : Type 0
HeadersReadBack =
    (sizes : Sizes) (n : ℕ) (header : HeaderValue) → IsWithinLimits sizes →
    IsStatement sizes (says.Gpt n header) → IsHeader header →
    is_empty_header header ≡ false → ReadsBack (terms_of One sizes) (header_text n header) (says.Gpt n header)

-- the line of a slot of a GPT that is not Null
abbrev pub GptSlotsReadBack : Type 0
GptSlotsReadBack =
    (sizes : Sizes) (n i : ℕ) (c : Capability) → IsWithinLimits sizes →
    IsStatement sizes (says.GptSlot n i (bare c)) → IsCapability c →
    is_null c ≡ false → ReadsBack (terms_of One sizes) (slot_text (codes "slot") n i c) (says.GptSlot n i (bare c))

-- the line of an endpoint that is not the empty one
abbrev pub EndpointsReadBack : Type 0
EndpointsReadBack =
    (sizes : Sizes) (n : ℕ) (e : Endpoint) → IsWithinLimits sizes →
    IsStatement sizes (says.Endpoint n (bare e.recipient) e.id e.payload e.matching) →
    IsCapability e.recipient → e.id < 2 ^ 32 → e.payload < 2 ^ 32 →
    is_empty_endpoint e ≡ false →
    ReadsBack (terms_of One sizes) (endpoint_text n e) (says.Endpoint n (bare e.recipient) e.id e.payload e.matching)

-- whether a process in this state runs, where a listing can say it: it runs, or it was stopped
abbrev pub runs_of : State → Option Bool
runs_of Running = Some true
runs_of (Faulted Stopped address) = Some false
runs_of _ = None

-- the line of a process that runs or was stopped, and is not the empty one
abbrev pub ProcessesReadBack : Type 0
ProcessesReadBack =
    (sizes : Sizes) (n : ℕ) (p : ProcessValue) (runs : Bool) → IsWithinLimits sizes →
    IsStatement sizes (says.Process n p.pc (bare (slot_of p 0)) (bare (slot_of p 1)) (bare (slot_of p 2)) runs) →
    IsProcess p → p.pc < 2 ^ 32 → runs_of p.state ≡ Some runs →
    is_empty_process p ≡ false →
    ReadsBack (terms_of One sizes) (process_text n p) (says.Process n p.pc (bare (slot_of p 0)) (bare (slot_of p 1)) (bare (slot_of p 2)) runs)

-- the line of a register that is not 0
abbrev pub RegistersReadBack : Type 0
RegistersReadBack =
    (sizes : Sizes) (n i value : ℕ) → IsWithinLimits sizes → IsStatement sizes (says.Reg n i value) → value < 2 ^ 32 →
    1 ≤ value → ReadsBack (terms_of One sizes) (register_text n i value) (says.Reg n i value)

-- the line of a capability register that is not Null
abbrev pub CapRegistersReadBack : Type 0
CapRegistersReadBack =
    (sizes : Sizes) (n i : ℕ) (c : Capability) → IsWithinLimits sizes →
    IsStatement sizes (says.CapReg n i (bare c)) → IsCapability c →
    is_null c ≡ false → ReadsBack (terms_of One sizes) (slot_text (codes "capreg") n i c) (says.CapReg n i (bare c))
