-- Objects as the statements that a listing would make them by. What is as in the empty object has no line.
use Rattle.std.specs.Prelude.{ℕ, ◌*◌, ◌==◌, ◌&&◌, not, Bool, true, false, if◌then◌else◌, List, [], ◌++◌, codes, decimal, slice_index}
use Rattle.std.specs.List.{list_all}
use Rattle.coy_text.specs.Numeral.{hex_text}
use Rattle.cap_format.specs.declared.kind.CapKind.{CapKind}
use Rattle.cap_format.specs.declared.kind.CapKind.TheVariants.{Null, Page, CapPage, Gpt, Endpoint, Process}
use Rattle.cap_format.specs.Capability.{Capability}
use Rattle.cap_format.specs.Codes.{fault_number}
use Rattle.gpt_objects.specs.Header.{HeaderValue}
use Rattle.gpt_objects.specs.Gpt.{slot_of}
use Rattle.page_store.specs.Page.{bytes_at}
use Rattle.page_store.specs.CapPage.{cap_at}
use Rattle.process_objects.specs.declared.wait.Wait.{Wait}
use Rattle.process_objects.specs.declared.wait.Wait.TheVariants.{Open, Closed}
use Rattle.process_objects.specs.declared.state.State.{State}
use Rattle.process_objects.specs.declared.state.State.TheVariants.{Running, Receiving, Faulted}
use Rattle.process_objects.specs.Accept.{AcceptValue}
use Rattle.process_objects.specs.Process.{ProcessValue, reg_of, capreg_of, slot_of as process_slot}
use Rattle.endpoint_objects.specs.declared.endpoint.Endpoint.{Endpoint as EndpointValue}
use Rattle.object_store.specs.Store.{Store, count_of, gpt_at, page_at, cappage_at, process_at, endpoint_at}
use Rattle.run_text.specs.declared.parts.Part.{Part}
use Rattle.run_text.specs.declared.parts.Part.TheVariants.{Row, PageSlot, GptSlot, Register, CapRegister}
use Rattle.run_text.specs.Each.{each_below}
use Rattle.run_text.specs.Names.{fault_name}
use Rattle.object_lines.specs.Words.{line_text, count_words, page_words, held_words, gpt_words, endpoint_words, process_words, register_words}

-- a number that is 0
abbrev pub is_zero : ℕ → Bool
is_zero n = (n == 0)

-- the kind of the capabilities that name nothing and allow nothing
abbrev pub is_null_kind : CapKind → Bool
is_null_kind Null = true
is_null_kind _ = false

-- a capability of that kind
abbrev pub is_null : Capability → Bool
is_null c = is_null_kind c.kind

-- the count of object `n` of a kind
unfoldable pub count_text : CapKind → ℕ → ℕ → List ℕ
count_text kind n count =
    if count == 0 then []
    else line_text (count_words kind n count)

-- a row of sixteen bytes of page `n`, from offset `at` on
unfoldable pub row_text : ℕ → ℕ → List ℕ → List ℕ
row_text n at bytes =
    if list_all (λ byte. byte == 0) bytes then []
    else line_text (page_words n at bytes)

-- slot `i` of object `n`, by the statement's first word
unfoldable pub slot_text : List ℕ → ℕ → ℕ → Capability → List ℕ
slot_text word n i cap =
    if is_null cap then []
    else line_text (held_words word n i cap)

-- the header of an empty GPT: 2^12 bytes a slot, with no handler and no background
abbrev pub is_empty_header : HeaderValue → Bool
is_empty_header header = (header.l2v == 12) && not header.ha && not header.bg

-- the header of GPT `n`
unfoldable pub header_text : ℕ → HeaderValue → List ℕ
header_text n header =
    if is_empty_header header then []
    else line_text (gpt_words n header)

-- an endpoint as a new one: without a recipient, with zeros, and open to every payload
abbrev pub is_empty_endpoint : EndpointValue → Bool
is_empty_endpoint e = is_null e.recipient && is_zero e.id && is_zero e.payload && not e.matching

-- endpoint `n`
unfoldable pub endpoint_text : ℕ → EndpointValue → List ℕ
endpoint_text n e =
    if is_empty_endpoint e then []
    else line_text (endpoint_words n e.recipient e.id e.payload e.matching)

-- from whom a receiver takes a message: from anyone, or through an endpoint with this id alone
abbrev pub wait_text : Wait → List ℕ
wait_text Open = codes "open"
wait_text (Closed id) = hex_text 8 id

-- the four registers to which its capabilities go, 0 where one is unused
abbrev pub registers_text : List ℕ → List ℕ
registers_text regs =
    decimal (slice_index regs 0) ++ codes " " ++ decimal (slice_index regs 1) ++ codes " " ++
    decimal (slice_index regs 2) ++ codes " " ++ decimal (slice_index regs 3)

-- what a receiver takes: from whom, how many capabilities, to which registers, and at what address how long a string
abbrev pub accept_text : AcceptValue → List ℕ
accept_text accept =
    wait_text accept.wait ++ codes " " ++ decimal accept.caps ++ codes " " ++ registers_text accept.regs ++ codes " " ++
    hex_text 8 accept.at ++ codes " " ++ decimal accept.bound

-- what a process does: it runs, it waits for a message, it was stopped, or it is at a fault
unfoldable pub state_word : State → List ℕ
state_word Running = codes "run"
state_word (Receiving accept) = codes "waiting " ++ accept_text accept
state_word (Faulted code address) =
    if is_zero (fault_number code) then codes "stop"
    else codes "faulted " ++ fault_name code ++ codes " " ++ hex_text 8 address

-- the state of a new process: stopped, and at address 0
abbrev pub is_stopped : State → Bool
is_stopped (Faulted code address) = is_zero (fault_number code) && is_zero address
is_stopped _ = false

-- a process as a new one in all but its capabilities: pc and registers are 0, and its state is that of a new one
unfoldable pub is_still : ProcessValue → Bool
is_still p = is_zero p.pc && is_stopped p.state && list_all (λ value. value == 0) p.regs

-- a process as a new one: that, and each of its capabilities is Null
unfoldable pub is_empty_process : ProcessValue → Bool
is_empty_process p = is_still p && list_all is_null p.capregs && list_all is_null p.slots

-- process `n`: its pc, its space, its schedule, its handler, and what it does
unfoldable pub process_text : ℕ → ProcessValue → List ℕ
process_text n p =
    if is_empty_process p then []
    else line_text (process_words n p.pc (process_slot p 0) (process_slot p 1) (process_slot p 2) (state_word p.state))

-- register `i` of process `n`
unfoldable pub register_text : ℕ → ℕ → ℕ → List ℕ
register_text n i value =
    if is_zero value then []
    else line_text (register_words n i value)

-- ---- the parts of an object that have a line each

-- the kind of the objects that have such parts
abbrev pub owner : Part → CapKind
owner Row = Page
owner PageSlot = CapPage
owner GptSlot = Gpt
owner Register = Process
owner CapRegister = Process

-- how many of them such an object has
abbrev pub parts_in : Part → ℕ
parts_in Row = 256
parts_in PageSlot = 256
parts_in GptSlot = 16
parts_in Register = 32
parts_in CapRegister = 32

-- part `i` of object `n`
unfoldable pub part_text : Store → Part → ℕ → ℕ → List ℕ
part_text s Row n i = row_text n (16 * i) (bytes_at (page_at s n) (16 * i) 16)
part_text s PageSlot n i = slot_text (codes "cap") n i (cap_at (cappage_at s n) i)
part_text s GptSlot n i = slot_text (codes "slot") n i (slot_of (gpt_at s.items n) i)
part_text s Register n i = register_text n i (reg_of (process_at s n) i)
part_text s CapRegister n i = slot_text (codes "capreg") n i (capreg_of (process_at s n) i)

-- all of them, by their numbers
abbrev pub parts_text : Store → Part → ℕ → List ℕ
parts_text s part n = each_below (part_text s part n) (parts_in part)

-- how many slots of GPTs are read for one of them
abbrev pub reads : Part → ℕ
reads GptSlot = 1
reads _ = 0

-- ---- the lines of object `n` of a kind

-- what it is, beside its parts
abbrev pub statement_text : Store → CapKind → ℕ → List ℕ
statement_text s Gpt n = header_text n (gpt_at s.items n).header
statement_text s Endpoint n = endpoint_text n (endpoint_at s n)
statement_text s Process n = process_text n (process_at s n)
statement_text s _ n = []

-- its parts: a process has its registers, then its capability registers
abbrev pub contents_text : Store → CapKind → ℕ → List ℕ
contents_text s Page n = parts_text s Row n
contents_text s CapPage n = parts_text s PageSlot n
contents_text s Gpt n = parts_text s GptSlot n
contents_text s Process n = parts_text s Register n ++ parts_text s CapRegister n
contents_text s _ n = []

-- how many slots of GPTs are read for it
abbrev pub reads_of : CapKind → ℕ
reads_of Gpt = 16
reads_of _ = 0

-- its count, unless that is 0, and what it is, unless that is as in the empty object
abbrev pub heading_text : Store → CapKind → ℕ → List ℕ
heading_text s kind n = count_text kind n (count_of s.items kind n) ++ statement_text s kind n

-- all its lines
unfoldable pub object_text : Store → CapKind → ℕ → List ℕ
object_text s kind n = heading_text s kind n ++ contents_text s kind n
