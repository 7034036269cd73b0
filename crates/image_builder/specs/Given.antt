-- What the statements of a listing give each thing of a machine: of those that name a thing the last one says what stands there.
use Rattle.std.specs.Prelude.{ℕ, ◌+◌, ◌-◌, ◌==◌, ◌&&◌, nat_le, nat_lt, Bool, zero, suc, List, map, Option, Some, None, unwrap_or, if◌then◌else◌, slice_get, slice_index}
use Rattle.std.specs.List.{range_with_len, filter_map, last_or}
use Rattle.std.specs.Int.{to_le_bytes, w32}
use Rattle.cap_format.specs.declared.kind.CapKind.{CapKind}
use Rattle.cap_format.specs.declared.kind.CapKind.TheVariants.{Page as PageKind, CapPage as CapPageKind, Gpt as GptKind, Endpoint as EndpointKind, Process as ProcessKind}
use Rattle.cap_format.specs.Kind.{number_of, is_counted, object_kind}
use Rattle.cap_format.specs.Guard.{guard_of}
use Rattle.cap_format.specs.Capability.{Capability, capability, with_count, null}
use Rattle.gpt_objects.specs.Header.{HeaderValue, empty_header}
use Rattle.gpt_objects.specs.Gpt.{GptValue}
use Rattle.process_objects.specs.Process.{ProcessValue, process_of, stopped}
use Rattle.endpoint_objects.specs.declared.endpoint.Endpoint.{Endpoint as EndpointValue}
use Rattle.endpoint_objects.specs.Endpoint.{empty_endpoint}
use Rattle.rv32_decode.specs.declared.insn.Insn.{Insn}
use Rattle.rv32_decode.specs.Word.{word_of}
use Rattle.object_store.specs.declared.sizes.Sizes.{Sizes}
use Rattle.object_store.specs.Store.{CountsValue, Store, counts_of, store_of}
use Rattle.listing_read.specs.declared.statement.Statement.{Statement}
use Rattle.listing_read.specs.declared.statement.Statement.TheVariants.{Page, Code, CapSlot, Gpt, GptSlot, Endpoint, Process, Reg, CapReg, Count, Region}

-- ---- what one statement gives a thing

-- the allocation count of object `n` of a kind
abbrev pub count_given : CapKind → ℕ → Statement → Option ℕ
count_given kind n (Count named number count) = if number_of named == number_of kind && number == n then Some count else None
count_given kind n statement = None

-- the four bytes of an instruction, the lowest first (RV32I)
abbrev pub instruction_bytes : Insn → List ℕ
instruction_bytes insn = to_le_bytes w32 (word_of insn)

-- byte `i` of a page in which these bytes stand from offset `at` on
abbrev pub byte_in : ℕ → List ℕ → ℕ → Option ℕ
byte_in at bytes i = if nat_le at i then slice_get bytes (i - at) else None

-- byte `i` of page `n`
abbrev pub byte_given : ℕ → ℕ → Statement → Option ℕ
byte_given n i (Page number at bytes) = if number == n then byte_in at bytes i else None
byte_given n i (Code number at insn) = if number == n then byte_in at (instruction_bytes insn) i else None
byte_given n i statement = None

-- slot `i` of capability page `n`
abbrev pub cap_given : ℕ → ℕ → Statement → Option Capability
cap_given n i (CapSlot number slot cap) = if number == n && slot == i then Some cap else None
cap_given n i statement = None

-- the header of GPT `g`
abbrev pub header_given : ℕ → Statement → Option HeaderValue
header_given g (Gpt number header) = if number == g then Some header else None
header_given g statement = None

-- what a region assigns for page `n`, which stands there behind the guard 12/0 with the region's restrictions
abbrev pub region_cap : ℕ → ℕ → Capability
region_cap n restr = capability PageKind restr 0 (guard_of 12 0) n 0 0

-- slot `i` is one of `count` slots from `slot` on
abbrev pub is_among : ℕ → ℕ → ℕ → Bool
is_among slot count i = nat_le slot i && nat_lt i (slot + count)

-- slot `i` of GPT `g`: a region gives the first of its slots its first page, the next the next, and so on
abbrev pub slot_given : ℕ → ℕ → Statement → Option Capability
slot_given g i (GptSlot number slot cap) = if number == g && slot == i then Some cap else None
slot_given g i (Region gpt slot count page restr) =
    if gpt == g && is_among slot count i then Some (region_cap (page + (i - slot)) restr.0) else None
slot_given g i statement = None

-- endpoint `n`
abbrev pub endpoint_given : ℕ → Statement → Option EndpointValue
endpoint_given n (Endpoint number recipient id payload matching) =
    if number == n then Some (record { recipient = recipient; id = id; payload = payload; matching = matching }) else None
endpoint_given n statement = None

-- the pc of process `p`
abbrev pub pc_given : ℕ → Statement → Option ℕ
pc_given p (Process number pc space schedule handler runs) = if number == p then Some pc else None
pc_given p statement = None

-- whether process `p` runs
abbrev pub run_given : ℕ → Statement → Option Bool
run_given p (Process number pc space schedule handler runs) = if number == p then Some runs else None
run_given p statement = None

-- what stands in slot `i` of a process with these capabilities: 0 is the space, 1 the schedule, 2 the fault handler
abbrev pub slot_among : ℕ → Capability → Capability → Capability → Capability
slot_among zero space schedule handler = space
slot_among (suc zero) space schedule handler = schedule
slot_among (suc (suc i)) space schedule handler = handler

-- slot `i` of process `p`
abbrev pub place_given : ℕ → ℕ → Statement → Option Capability
place_given p i (Process number pc space schedule handler runs) = if number == p then Some (slot_among i space schedule handler) else None
place_given p i statement = None

-- register `i` of process `p`
abbrev pub reg_given : ℕ → ℕ → Statement → Option ℕ
reg_given p i (Reg number index value) = if number == p && index == i then Some value else None
reg_given p i statement = None

-- capability register `i` of process `p`
abbrev pub capreg_given : ℕ → ℕ → Statement → Option Capability
capreg_given p i (CapReg number index cap) = if number == p && index == i then Some cap else None
capreg_given p i statement = None

-- ---- what all statements give

-- what the last statement gives that gives anything, and what stands in an empty object where none does
unfoldable pub last_given : {A : Type 0} → (Statement → Option A) → A → List Statement → A
last_given given empty xs = unwrap_or (last_or None (filter_map given xs)) empty

-- as many as `n` things, by their numbers
unfoldable pub listed : {A : Type 0} → ℕ → (ℕ → A) → List A
listed n f = map f (range_with_len 0 n)

-- the counts of all objects
abbrev pub final_counts : Sizes → List Statement → CountsValue
final_counts sizes xs = record {
  pages = listed sizes.pages (λ n. last_given (count_given PageKind n) 0 xs);
  cappages = listed sizes.cappages (λ n. last_given (count_given CapPageKind n) 0 xs);
  gpts = listed sizes.gpts (λ n. last_given (count_given GptKind n) 0 xs);
  processes = listed sizes.processes (λ n. last_given (count_given ProcessKind n) 0 xs);
  endpoints = listed sizes.endpoints (λ n. last_given (count_given EndpointKind n) 0 xs);
}

-- the capability with the count of its object, and 0 where there is no such object
abbrev pub with_object_count : CountsValue → Capability → Capability
with_object_count counts c = if is_counted c.kind then with_count c (slice_index (counts_of counts (object_kind c.kind)) c.object) else c

-- the objects by their numbers, where these are their counts
module _ (counts : CountsValue) (xs : List Statement) where
  -- the capability that is given last, with the count of its object
  abbrev pub final_cap : (Statement → Option Capability) → Capability
  final_cap given = with_object_count counts (last_given given null xs)

  -- the bytes of page `n`
  abbrev pub final_page : ℕ → List ℕ
  final_page n = listed 4096 (λ i. last_given (byte_given n i) 0 xs)

  -- the slots of capability page `n`
  abbrev pub final_cappage : ℕ → List Capability
  final_cappage n = listed 256 (λ i. final_cap (cap_given n i))

  -- GPT `g`
  abbrev pub final_gpt : ℕ → GptValue
  final_gpt g = record { header = last_given (header_given g) empty_header xs; slots = listed 16 (λ i. final_cap (slot_given g i)) }

  -- endpoint `n`
  abbrev pub final_endpoint : ℕ → EndpointValue
  final_endpoint n = let given = last_given (endpoint_given n) empty_endpoint xs in record given { recipient = with_object_count counts given.recipient }

  -- process `p`, which is stopped
  abbrev pub final_process : ℕ → ProcessValue
  final_process p =
      process_of (last_given (pc_given p) 0 xs) (listed 32 (λ i. last_given (reg_given p i) 0 xs))
      (listed 32 (λ i. final_cap (capreg_given p i))) (listed 3 (λ i. final_cap (place_given p i))) stopped

  -- all objects of a machine of these sizes
  abbrev pub final_objects : Sizes → Store
  final_objects sizes =
      store_of sizes.harts counts (listed sizes.gpts (λ g. final_gpt g)) (listed sizes.pages (λ n. final_page n))
      (listed sizes.cappages (λ n. final_cappage n)) (listed sizes.processes (λ p. final_process p)) (listed sizes.endpoints (λ n. final_endpoint n))
