-- The statements that the printed objects of a state say, in the order in which they are printed: a statement for each
-- thing that is not as in the empty object. Capabilities stand in them without their counts.
use Rattle.std.specs.Prelude.{ℕ, zero, suc, ◌*◌, ◌==◌, Bool, if◌then◌else◌, List, [], ◌∷◌, ◌++◌, Option, Some, None}
use Rattle.std.specs.List.{list_all}
use Rattle.cap_format.specs.declared.kind.CapKind.{CapKind}
use Rattle.cap_format.specs.declared.kind.CapKind.TheVariants.{Page, CapPage, Gpt, Endpoint, Process}
use Rattle.cap_format.specs.Capability.{Capability, bare}
use Rattle.gpt_objects.specs.Header.{HeaderValue}
use Rattle.gpt_objects.specs.Gpt.{slot_of}
use Rattle.page_store.specs.Page.{bytes_at}
use Rattle.page_store.specs.CapPage.{cap_at}
use Rattle.process_objects.specs.Process.{ProcessValue, reg_of, capreg_of, slot_of as process_slot}
use Rattle.endpoint_objects.specs.declared.endpoint.Endpoint.{Endpoint as EndpointValue}
use Rattle.object_store.specs.Store.{Store, size_of, count_of, gpt_at, page_at, cappage_at, process_at, endpoint_at}
use Rattle.listing_read.specs.declared.statement.Statement.{Statement}
use Rattle.listing_read.specs.declared.statement.Statement.TheVariants as says
use Rattle.run_text.specs.Objects.{is_zero, is_null, is_empty_header, is_empty_endpoint, is_empty_process}
use Rattle.read_back.specs.Laws.{runs_of}

-- the statements of the first n things, in the order of their numbers
unfoldable pub statements_below : (ℕ → List Statement) → ℕ → List Statement
statements_below statements zero = []
statements_below statements (suc n) = statements_below statements n ++ statements n

-- a statement, and none where the thing is as in the empty object
abbrev pub unless_empty : Bool → Statement → List Statement
unless_empty empty statement = if empty then [] else statement ∷ []

-- ---- what is said of each thing

-- the count of object `n` of a kind
abbrev pub count_said : CapKind → ℕ → ℕ → List Statement
count_said kind n count = unless_empty (count == 0) (says.Count kind n count)

-- a row of bytes of page `n`, from offset `at` on
abbrev pub row_said : ℕ → ℕ → List ℕ → List Statement
row_said n at bytes = unless_empty (list_all (λ byte. byte == 0) bytes) (says.Page n at bytes)

-- slot `i` of capability page `n`
abbrev pub cap_said : ℕ → ℕ → Capability → List Statement
cap_said n i c = unless_empty (is_null c) (says.CapSlot n i (bare c))

-- the header of GPT `n`
abbrev pub header_said : ℕ → HeaderValue → List Statement
header_said n header = unless_empty (is_empty_header header) (says.Gpt n header)

-- slot `i` of GPT `n`
abbrev pub slot_said : ℕ → ℕ → Capability → List Statement
slot_said n i c = unless_empty (is_null c) (says.GptSlot n i (bare c))

-- endpoint `n`
abbrev pub endpoint_said : ℕ → EndpointValue → List Statement
endpoint_said n e = unless_empty (is_empty_endpoint e) (says.Endpoint n (bare e.recipient) e.id e.payload e.matching)

-- process `n`, which runs or was stopped; none where that isn't known
abbrev pub running_said : ℕ → ProcessValue → Option Bool → List Statement
running_said n p None = []
running_said n p (Some runs) =
    unless_empty (is_empty_process p)
    (says.Process n p.pc (bare (process_slot p 0)) (bare (process_slot p 1)) (bare (process_slot p 2)) runs)

-- the same by the state of process `n`: no statement says that it waits or is at a fault
abbrev pub process_said : ℕ → ProcessValue → List Statement
process_said n p = running_said n p (runs_of p.state)

-- register `i` of process `n`
abbrev pub register_said : ℕ → ℕ → ℕ → List Statement
register_said n i value = unless_empty (is_zero value) (says.Reg n i value)

-- capability register `i` of process `n`
abbrev pub capreg_said : ℕ → ℕ → Capability → List Statement
capreg_said n i c = unless_empty (is_null c) (says.CapReg n i (bare c))

-- ---- all that is said of object `n` of a kind, in the order of its lines

-- the 256 rows of page `n`
abbrev pub rows_said : Store → ℕ → List Statement
rows_said s n = statements_below (λ i. row_said n (16 * i) (bytes_at (page_at s n) (16 * i) 16)) 256

-- the slots of capability page `n`
abbrev pub caps_said : Store → ℕ → List Statement
caps_said s n = statements_below (λ i. cap_said n i (cap_at (cappage_at s n) i)) 256

-- the slots of GPT `n`
abbrev pub slots_said : Store → ℕ → List Statement
slots_said s n = statements_below (λ i. slot_said n i (slot_of (gpt_at s.items n) i)) 16

-- the registers of process `n`
abbrev pub registers_said : Store → ℕ → List Statement
registers_said s n = statements_below (λ i. register_said n i (reg_of (process_at s n) i)) 32

-- its capability registers
abbrev pub capregs_said : Store → ℕ → List Statement
capregs_said s n = statements_below (λ i. capreg_said n i (capreg_of (process_at s n) i)) 32

-- what it is, beside its parts
abbrev pub itself_said : Store → CapKind → ℕ → List Statement
itself_said s Gpt n = header_said n (gpt_at s.items n).header
itself_said s Endpoint n = endpoint_said n (endpoint_at s n)
itself_said s Process n = process_said n (process_at s n)
itself_said s _ n = []

-- its parts: of a process the registers, then the capability registers
abbrev pub contents_said : Store → CapKind → ℕ → List Statement
contents_said s Page n = rows_said s n
contents_said s CapPage n = caps_said s n
contents_said s Gpt n = slots_said s n
contents_said s Process n = registers_said s n ++ capregs_said s n
contents_said s _ n = []

-- its count, itself and its parts
abbrev pub object_said : Store → CapKind → ℕ → List Statement
object_said s kind n = (count_said kind n (count_of s.items kind n) ++ itself_said s kind n) ++ contents_said s kind n

-- ---- all objects

-- those of a kind, by their numbers
abbrev pub kind_said : Store → CapKind → List Statement
kind_said s kind = statements_below (object_said s kind) (size_of s.items kind)

-- the statements of all objects
unfoldable pub statements_of : Store → List Statement
statements_of s = kind_said s Page ++ (kind_said s CapPage ++ (kind_said s Gpt ++ (kind_said s Endpoint ++ kind_said s Process)))
