-- What stands in each thing that the printed statements give.
use Rattle.std.proofs.Common.{ℕ, zero, suc, ◌≡◌, ◌≢◌, ◌+◌, ◌-◌, ◌*◌, ◌/◌, ◌<◌, ◌==◌, ◌&&◌, Bool, true, false, not, if◌then◌else◌, List, [], ◌++◌, Option, Some, None, length, get_or, drop, refl, sym, ap, ◌∙◌, inl, inr, arith, length-drop}
use Rattle.std.specs.List.{filter_map, list_all}
use Rattle.std.specs.Option.{is_some, unwrap_or}
use Rattle.std.proofs.lemmas.Bool.{ne_eqb, eq-eqb, eqb-true, lt-ltb, le-leb, and_parts}
use Rattle.std.proofs.lemmas.Bool.Decides.{leb_tells}
use Rattle.std.proofs.lemmas.List.{append-nil, length-take-le, get_or-take, get_or-drop}
use Rattle.std.proofs.lemmas.List.Elements.{filter_map-append}
use Rattle.std.proofs.lemmas.List.Folds.{list_all_at}
use Rattle.std.proofs.lemmas.Option.{slice_get-get_or, slice_get_past}
use Rattle.cap_format.specs.declared.kind.CapKind.{CapKind}
use Rattle.cap_format.specs.declared.kind.CapKind.TheVariants as kinds
use Rattle.cap_format.specs.declared.fault.FaultCode.TheVariants.{Stopped}
use Rattle.cap_format.specs.Kind.{number_of, is_object, is_counted, object_kind}
use Rattle.cap_format.specs.Guard.{GuardValue}
use Rattle.cap_format.specs.Capability.{Capability, IsCapability, capability, with_count, bare, null}
use Rattle.gpt_objects.specs.Header.{HeaderValue, header_of, empty_header}
use Rattle.gpt_objects.specs.Gpt.{slot_of}
use Rattle.page_store.specs.Page.{IsPage, bytes_at}
use Rattle.page_store.specs.CapPage.{cap_at}
use Rattle.process_objects.specs.declared.state.State.{State}
use Rattle.process_objects.specs.declared.state.State.TheVariants.{Faulted}
use Rattle.process_objects.specs.Process.{ProcessValue, reg_of, capreg_of, slot_of as process_slot}
use Rattle.endpoint_objects.specs.declared.endpoint.Endpoint.{Endpoint}
use Rattle.endpoint_objects.specs.Endpoint.{empty_endpoint}
use Rattle.object_store.specs.Store.{Store, sizes_of, size_of, count_of, counts_of, gpt_at, page_at, cappage_at, process_at, endpoint_at}
use Rattle.object_store.specs.Meaning.{is_live, meaning}
use Rattle.object_store.proofs.Live.{meaning_live}
use Rattle.object_store.specs.Sizes.{size_in}
use Rattle.listing_read.specs.CapWord.{IsStated}
use Rattle.listing_read.specs.declared.statement.Statement.{Statement}
use Rattle.listing_read.specs.declared.statement.Statement.TheVariants as says
use Rattle.image_builder.specs.Given.{last_given, count_given, byte_given, cap_given, header_given, slot_given, endpoint_given, pc_given, run_given, slot_among, place_given, reg_given, capreg_given, with_object_count}
use Rattle.run_text.specs.Objects.{is_zero, is_null_kind, is_null, is_empty_header, is_empty_endpoint, is_stopped, is_still, is_empty_process}
use Rattle.read_back.specs.Laws.{runs_of}
use Rattle.read_back.specs.Printed.{unless_empty, count_said, row_said, cap_said, slot_said, register_said, capreg_said, running_said, rows_said, caps_said, slots_said, registers_said, capregs_said, itself_said, contents_said, statements_of}
use Rattle.boot_again.proofs.Given.{Silent, Names, silent_both, silent_unless, silent_below, pick, last_one, from_count, from_itself, from_contents, picked, names_count, names_byte, names_cap, names_header, names_slot, names_endpoint, names_pc, names_run, names_place, names_reg, names_capreg}

-- ---- what is as in the empty object is the empty one

-- a test that holds of all elements
all_true : {X : Type 0} (test : X → Bool) (xs : List X) (i : ℕ) (d : X) → i < length xs → list_all test xs ≡ true → test (get_or xs i d) ≡ true
all_true test xs i d there all = on (test (get_or xs i d)) refl
  where
    on : (b : Bool) → test (get_or xs i d) ≡ b → b ≡ true
    on true is = refl
    on false is = let none = list_all_at test xs i d there is in cc

-- what stands in the end is what stood there, with a statement and without
stands_or : {A : Type 0} (empty : Bool) (default given stood : A) → (empty ≡ true → default ≡ stood) → (empty ≡ false → given ≡ stood) → (if empty then default else given) ≡ stood
stands_or true default given stood none some = none refl
stands_or false default given stood none some = some refl

zero_or : (n : ℕ) → (if n == 0 then 0 else n) ≡ n
zero_or n = stands_or (n == 0) 0 n n (λ none. sym (eqb-true n 0 none)) (λ _. refl)

null_fields : (kind : CapKind) (restr count : ℕ) (guard : GuardValue) (object payload slot : ℕ) → IsCapability (capability kind restr count guard object payload slot) → count ≡ 0 → is_null_kind kind ≡ true → capability kind restr count guard object payload slot ≡ null
null_fields kinds.Null restr count guard object payload slot is zero_is null_is =
    let r : restr ≡ 0 = omega (arith, is.restr) in
    let o : object ≡ 0 = omega (arith, is.object) in
    let p : payload ≡ 0 = omega (arith, is.payload) in
    let s : slot ≡ 0 = omega (arith, is.slot) in
    let g = is.unguarded refl in
    rw (r, zero_is, g, o, p, s) refl
null_fields _ restr count guard object payload slot is zero_is null_is = absurd (cc)

null_is : (c : Capability) → IsCapability c → c.count ≡ 0 → is_null c ≡ true → null ≡ c
null_is c is zero_is none = sym (null_fields c.kind c.restr c.count c.guard c.object c.payload c.slot is zero_is none)

-- a capability without a count
bare_is : (c : Capability) → c.count ≡ 0 → bare c ≡ c
bare_is c zero_is = ap (with_count c) (sym zero_is)

null_or : (c : Capability) → IsCapability c → c.count ≡ 0 → (if is_null c then null else bare c) ≡ c
null_or c is zero_is = stands_or (is_null c) null (bare c) c (null_is c is zero_is) (λ _. bare_is c zero_is)

header_fields : (l2v : ℕ) (ha bg : Bool) → is_empty_header (header_of l2v ha bg) ≡ true → empty_header ≡ header_of l2v ha bg
header_fields l2v true bg is = let p = and_parts ((l2v == 12) && false) (not bg) is in let q = and_parts (l2v == 12) false p.0 in absurd (cc)
header_fields l2v false true is = let p = and_parts ((l2v == 12) && true) false is in absurd (cc)
header_fields l2v false false is =
    let p = and_parts ((l2v == 12) && true) true is in
    let q = and_parts (l2v == 12) true p.0 in
    ap (λ n. header_of n false false) (sym (eqb-true l2v 12 q.0))

header_or : (header : HeaderValue) → (if is_empty_header header then empty_header else header) ≡ header
header_or header = stands_or (is_empty_header header) empty_header header header (header_fields header.l2v header.ha header.bg) (λ _. refl)

-- an endpoint by its fields
abbrev endpoint_with : Capability → ℕ → ℕ → Bool → Endpoint
endpoint_with recipient id payload matching = record { recipient = recipient; id = id; payload = payload; matching = matching }

endpoint_fields : (recipient : Capability) (id payload : ℕ) (matching : Bool) → IsCapability recipient → recipient.count ≡ 0 → is_empty_endpoint (endpoint_with recipient id payload matching) ≡ true → empty_endpoint ≡ endpoint_with recipient id payload matching
endpoint_fields recipient id payload true is zero_is empty = let p = and_parts (is_null recipient && is_zero id && is_zero payload) false empty in absurd (cc)
endpoint_fields recipient id payload false is zero_is empty =
    let p = and_parts (is_null recipient && is_zero id && is_zero payload) true empty in
    let q = and_parts (is_null recipient && is_zero id) (is_zero payload) p.0 in
    let r = and_parts (is_null recipient) (is_zero id) q.0 in
    let one = null_is recipient is zero_is r.0 in
    let two = eqb-true id 0 r.1 in
    let three = eqb-true payload 0 q.1 in
    rw (← one, two, three) refl

endpoint_or : (e : Endpoint) → IsCapability e.recipient → e.recipient.count ≡ 0 → (if is_empty_endpoint e then empty_endpoint else endpoint_with (bare e.recipient) e.id e.payload e.matching) ≡ e
endpoint_or e is zero_is =
    stands_or (is_empty_endpoint e) empty_endpoint (endpoint_with (bare e.recipient) e.id e.payload e.matching) e
    (endpoint_fields e.recipient e.id e.payload e.matching is zero_is)
    (λ _. ap (λ recipient. endpoint_with recipient e.id e.payload e.matching) (bare_is e.recipient zero_is))

-- what is known of a process that is as the empty one
record IsBlank (p : ProcessValue) : Type 0 where
  pub pc : (p.pc == 0) ≡ true
  pub stopped : is_stopped p.state ≡ true
  pub slots : list_all is_null p.slots ≡ true

blank : (p : ProcessValue) → is_empty_process p ≡ true → IsBlank p
unfolding is_empty_process is_still
blank p empty =
    let a = and_parts (is_still p && list_all is_null p.capregs) (list_all is_null p.slots) empty in
    let b = and_parts (is_still p) (list_all is_null p.capregs) a.0 in
    let c = and_parts (is_zero p.pc && is_stopped p.state) (list_all (λ value. value == 0) p.regs) b.0 in
    let d = and_parts (is_zero p.pc) (is_stopped p.state) c.0 in
    record { pc = d.0; stopped = d.1; slots = a.1 }

pc_or : (p : ProcessValue) → (if is_empty_process p then 0 else p.pc) ≡ p.pc
pc_or p = stands_or (is_empty_process p) 0 p.pc p.pc (λ empty. sym (eqb-true p.pc 0 (blank p empty).pc)) (λ _. refl)

stopped_runs : (state : State) → is_stopped state ≡ true → runs_of state ≡ Some false
stopped_runs (Faulted Stopped address) is = refl
stopped_runs _ is = absurd (cc)

runs_or : (p : ProcessValue) (runs : Bool) → runs_of p.state ≡ Some runs → (if is_empty_process p then false else runs) ≡ runs
runs_or p runs same =
    stands_or (is_empty_process p) false runs runs (λ empty. let stopped = stopped_runs p.state (blank p empty).stopped in cc) (λ _. refl)

-- a slot of a process
among : (p : ProcessValue) (i : ℕ) → i < 3 → slot_among i (bare (process_slot p 0)) (bare (process_slot p 1)) (bare (process_slot p 2)) ≡ bare (process_slot p i)
among p zero below = refl
among p (suc zero) below = refl
among p (suc (suc zero)) below = refl
among p (suc (suc (suc i))) below = absurd (omega arith)

place_or : (p : ProcessValue) (i : ℕ) → i < 3 → length p.slots ≡ 3 → IsCapability (process_slot p i) → (process_slot p i).count ≡ 0 → (if is_empty_process p then null else slot_among i (bare (process_slot p 0)) (bare (process_slot p 1)) (bare (process_slot p 2))) ≡ process_slot p i
place_or p i below three is zero_is =
    stands_or (is_empty_process p) null (slot_among i (bare (process_slot p 0)) (bare (process_slot p 1)) (bare (process_slot p 2))) (process_slot p i)
    (λ empty. null_is (process_slot p i) is zero_is (all_true is_null p.slots i null (omega arith) (blank p empty).slots))
    (λ _. among p i below ∙ bare_is (process_slot p i) zero_is)

-- whether a process runs, of which that is known
pub some_is : (runs : Option Bool) → is_some runs ≡ true → runs ≡ Some (unwrap_or runs false)
some_is None is = absurd (cc)
some_is (Some runs) is = refl

-- a number is itself
self : (n : ℕ) → (n == n) ≡ true
self n = eq-eqb n n refl

-- ---- a row of a page

module _ (page : List ℕ) (is : IsPage page) where
  row_is : (row : ℕ) → row < 256 → length (bytes_at page (16 * row) 16) ≡ 16
  row_is row below = length-take-le 16 (drop (16 * row) page) (omega (arith, length-drop (16 * row) page))

  in_row : (i : ℕ) → i < 4096 → get_or (bytes_at page (16 * (i / 16)) 16) (i - 16 * (i / 16)) 0 ≡ get_or page i 0
  in_row i below =
      let there : 16 * (i / 16) + (i - 16 * (i / 16)) ≡ i = omega arith in
      get_or-take 16 (drop (16 * (i / 16)) page) (i - 16 * (i / 16)) 0 (omega arith)
      ∙ get_or-drop (16 * (i / 16)) page (i - 16 * (i / 16)) 0
      ∙ ap (λ k. get_or page k 0) there

  row_gives : (n i : ℕ) → i < 4096 → byte_given n i (says.Page n (16 * (i / 16)) (bytes_at page (16 * (i / 16)) 16)) ≡ Some (get_or page i 0)
  row_gives n i below =
      let long = row_is (i / 16) (omega arith) in
      rw (self n, le-leb (16 * (i / 16)) i (omega arith))
      (slice_get-get_or (bytes_at page (16 * (i / 16)) 16) (i - 16 * (i / 16)) 0 (omega arith) ∙ ap Some (in_row i below))

  other_row : (n i row : ℕ) → row < 256 → row ≢ i / 16 → byte_given n i (says.Page n (16 * row) (bytes_at page (16 * row) 16)) ≡ None
  other_row n i row below other =
      let long = row_is row below in
      rw (self n) (elim (leb_tells (16 * row) i) [
        | inl (t, from) ↦ rw t (slice_get_past (bytes_at page (16 * row) 16) (i - 16 * row) (omega arith))
        | inr (t, before) ↦ rw t refl
      ])

  byte_or : (i : ℕ) → i < 4096 → (if list_all (λ byte. byte == 0) (bytes_at page (16 * (i / 16)) 16) then 0 else get_or page i 0) ≡ get_or page i 0
  byte_or i below =
      let long = row_is (i / 16) (omega arith) in
      stands_or (list_all (λ byte. byte == 0) (bytes_at page (16 * (i / 16)) 16)) 0 (get_or page i 0) (get_or page i 0)
      (λ none. sym (eqb-true (get_or (bytes_at page (16 * (i / 16)) 16) (i - 16 * (i / 16)) 0) 0 (all_true (λ byte. byte == 0) (bytes_at page (16 * (i / 16)) 16) (i - 16 * (i / 16)) 0 (omega arith) none)) ∙ in_row i below)
      (λ _. refl)

-- ---- the things of a store

module _ (s : Store) where
  -- a count
  count_itself : (kind named : CapKind) (n m : ℕ) → Silent (count_given kind n) (itself_said s named m)
  count_itself kind kinds.Gpt n m = silent_unless (count_given kind n) _ _ refl
  count_itself kind kinds.Endpoint n m = silent_unless (count_given kind n) _ _ refl
  count_itself kind kinds.Process n m = running (runs_of (process_at s m).state)
    where
      running : (runs : Option Bool) → Silent (count_given kind n) (running_said m (process_at s m) runs)
      running None = refl
      running (Some runs) = silent_unless (count_given kind n) _ _ refl
  count_itself kind _ n m = refl

  count_contents : (kind named : CapKind) (n m : ℕ) → Silent (count_given kind n) (contents_said s named m)
  count_contents kind kinds.Page n m = silent_below (count_given kind n) _ 256 (λ i below. silent_unless (count_given kind n) _ _ refl)
  count_contents kind kinds.CapPage n m = silent_below (count_given kind n) _ 256 (λ i below. silent_unless (count_given kind n) _ _ refl)
  count_contents kind kinds.Gpt n m = silent_below (count_given kind n) _ 16 (λ i below. silent_unless (count_given kind n) _ _ refl)
  count_contents kind kinds.Process n m =
      silent_both (count_given kind n) (registers_said s m) (capregs_said s m)
      (silent_below (count_given kind n) _ 32 (λ i below. silent_unless (count_given kind n) _ _ refl))
      (silent_below (count_given kind n) _ 32 (λ i below. silent_unless (count_given kind n) _ _ refl))
  count_contents kind _ n m = refl

  pub count_stands : (kind : CapKind) → is_object kind ≡ true → (n : ℕ) → n < size_of s.items kind → last_given (count_given kind n) 0 (statements_of s) ≡ count_of s.items kind n
  count_stands kind object n there =
      last_one (count_given kind n) 0 (count_of s.items kind n) (statements_of s) (count_of s.items kind n == 0) (says.Count kind n (count_of s.items kind n))
      (picked (count_given kind n) s (number_of kind) n (names_count kind n) kind object refl there
      ∙ from_count (count_given kind n) s (count_said kind n (count_of s.items kind n)) (itself_said s kind n) (contents_said s kind n) (count_itself kind kind n n) (count_contents kind kind n n))
      (rw (self (number_of kind), self n) refl)
      ∙ zero_or (count_of s.items kind n)

  -- a byte of a page
  pub byte_stands : (n i : ℕ) → n < size_of s.items kinds.Page → i < 4096 → IsPage (page_at s n) → last_given (byte_given n i) 0 (statements_of s) ≡ get_or (page_at s n) i 0
  byte_stands n i there below is =
      last_one (byte_given n i) 0 (get_or (page_at s n) i 0) (statements_of s) (list_all (λ byte. byte == 0) (bytes_at (page_at s n) (16 * (i / 16)) 16)) (says.Page n (16 * (i / 16)) (bytes_at (page_at s n) (16 * (i / 16)) 16))
      (picked (byte_given n i) s 1 n (names_byte n i) kinds.Page refl refl there
      ∙ from_contents (byte_given n i) s (count_said kinds.Page n (count_of s.items kinds.Page n)) [] (rows_said s n) (silent_unless (byte_given n i) _ _ refl) refl
      ∙ pick (byte_given n i) (λ row. row_said n (16 * row) (bytes_at (page_at s n) (16 * row) 16)) 256 (i / 16) (omega arith)
      (λ row within other. silent_unless (byte_given n i) _ _ (other_row (page_at s n) is n i row within other)))
      (row_gives (page_at s n) is n i below)
      ∙ byte_or (page_at s n) is i below

  -- a slot of a capability page
  pub cap_stands : (n i : ℕ) → n < size_of s.items kinds.CapPage → i < 256 → IsCapability (cap_at (cappage_at s n) i) → (cap_at (cappage_at s n) i).count ≡ 0 → last_given (cap_given n i) null (statements_of s) ≡ cap_at (cappage_at s n) i
  cap_stands n i there below is zero_is =
      last_one (cap_given n i) null (bare (cap_at (cappage_at s n) i)) (statements_of s) (is_null (cap_at (cappage_at s n) i)) (says.CapSlot n i (bare (cap_at (cappage_at s n) i)))
      (picked (cap_given n i) s 2 n (names_cap n i) kinds.CapPage refl refl there
      ∙ from_contents (cap_given n i) s (count_said kinds.CapPage n (count_of s.items kinds.CapPage n)) [] (caps_said s n) (silent_unless (cap_given n i) _ _ refl) refl
      ∙ pick (cap_given n i) (λ j. cap_said n j (cap_at (cappage_at s n) j)) 256 i below
      (λ j within other. let off = ne_eqb j i other in silent_unless (cap_given n i) _ (says.CapSlot n j (bare (cap_at (cappage_at s n) j))) (rw (self n, off) refl)))
      (rw (self n, self i) refl)
      ∙ null_or (cap_at (cappage_at s n) i) is zero_is

  -- the header of a GPT, and a slot
  pub header_stands : (n : ℕ) → n < size_of s.items kinds.Gpt → last_given (header_given n) empty_header (statements_of s) ≡ (gpt_at s.items n).header
  header_stands n there =
      last_one (header_given n) empty_header (gpt_at s.items n).header (statements_of s) (is_empty_header (gpt_at s.items n).header) (says.Gpt n (gpt_at s.items n).header)
      (picked (header_given n) s 3 n (names_header n) kinds.Gpt refl refl there
      ∙ from_itself (header_given n) s (count_said kinds.Gpt n (count_of s.items kinds.Gpt n)) (itself_said s kinds.Gpt n) (slots_said s n)
      (silent_unless (header_given n) _ _ refl) (silent_below (header_given n) _ 16 (λ i below. silent_unless (header_given n) _ _ refl)))
      (rw (self n) refl)
      ∙ header_or (gpt_at s.items n).header

  pub slot_stands : (n i : ℕ) → n < size_of s.items kinds.Gpt → i < 16 → IsCapability (slot_of (gpt_at s.items n) i) → (slot_of (gpt_at s.items n) i).count ≡ 0 → last_given (slot_given n i) null (statements_of s) ≡ slot_of (gpt_at s.items n) i
  slot_stands n i there below is zero_is =
      last_one (slot_given n i) null (bare (slot_of (gpt_at s.items n) i)) (statements_of s) (is_null (slot_of (gpt_at s.items n) i)) (says.GptSlot n i (bare (slot_of (gpt_at s.items n) i)))
      (picked (slot_given n i) s 3 n (names_slot n i) kinds.Gpt refl refl there
      ∙ from_contents (slot_given n i) s (count_said kinds.Gpt n (count_of s.items kinds.Gpt n)) (itself_said s kinds.Gpt n) (slots_said s n)
      (silent_unless (slot_given n i) _ _ refl) (silent_unless (slot_given n i) _ _ refl)
      ∙ pick (slot_given n i) (λ j. slot_said n j (slot_of (gpt_at s.items n) j)) 16 i below
      (λ j within other. let off = ne_eqb j i other in silent_unless (slot_given n i) _ (says.GptSlot n j (bare (slot_of (gpt_at s.items n) j))) (rw (self n, off) refl)))
      (rw (self n, self i) refl)
      ∙ null_or (slot_of (gpt_at s.items n) i) is zero_is

  -- an endpoint
  pub endpoint_stands : (n : ℕ) → n < size_of s.items kinds.Endpoint → IsCapability (endpoint_at s n).recipient → (endpoint_at s n).recipient.count ≡ 0 → last_given (endpoint_given n) empty_endpoint (statements_of s) ≡ endpoint_at s n
  endpoint_stands n there is zero_is =
      last_one (endpoint_given n) empty_endpoint (endpoint_with (bare (endpoint_at s n).recipient) (endpoint_at s n).id (endpoint_at s n).payload (endpoint_at s n).matching) (statements_of s)
      (is_empty_endpoint (endpoint_at s n)) (says.Endpoint n (bare (endpoint_at s n).recipient) (endpoint_at s n).id (endpoint_at s n).payload (endpoint_at s n).matching)
      (picked (endpoint_given n) s 6 n (names_endpoint n) kinds.Endpoint refl refl there
      ∙ from_itself (endpoint_given n) s (count_said kinds.Endpoint n (count_of s.items kinds.Endpoint n)) (itself_said s kinds.Endpoint n) [] (silent_unless (endpoint_given n) _ _ refl) refl)
      (rw (self n) refl)
      ∙ endpoint_or (endpoint_at s n) is zero_is

  -- a process: what stands in it beside its registers
  process_picked : {A : Type 0} (given : Statement → Option A) (n : ℕ) (runs : Bool) → Names given 8 n → ((count : ℕ) → given (says.Count kinds.Process n count) ≡ None) → ((i value : ℕ) → given (says.Reg n i value) ≡ None) → ((i : ℕ) (c : Capability) → given (says.CapReg n i c) ≡ None) → n < size_of s.items kinds.Process → runs_of (process_at s n).state ≡ Some runs → filter_map given (statements_of s) ≡ filter_map given (unless_empty (is_empty_process (process_at s n)) (says.Process n (process_at s n).pc (bare (process_slot (process_at s n) 0)) (bare (process_slot (process_at s n) 1)) (bare (process_slot (process_at s n) 2)) runs))
  process_picked given n runs names counts regs capregs there same =
      picked given s 8 n names kinds.Process refl refl there
      ∙ from_itself given s (count_said kinds.Process n (count_of s.items kinds.Process n)) (itself_said s kinds.Process n) (registers_said s n ++ capregs_said s n)
      (silent_unless given _ _ (counts (count_of s.items kinds.Process n)))
      (silent_both given (registers_said s n) (capregs_said s n)
      (silent_below given _ 32 (λ i below. silent_unless given _ _ (regs i (reg_of (process_at s n) i))))
      (silent_below given _ 32 (λ i below. silent_unless given _ _ (capregs i (bare (capreg_of (process_at s n) i))))))
      ∙ ap (λ r. filter_map given (running_said n (process_at s n) r)) same

  pub pc_stands : (n : ℕ) (runs : Bool) → n < size_of s.items kinds.Process → runs_of (process_at s n).state ≡ Some runs → last_given (pc_given n) 0 (statements_of s) ≡ (process_at s n).pc
  pc_stands n runs there same =
      last_one (pc_given n) 0 (process_at s n).pc (statements_of s) (is_empty_process (process_at s n)) _
      (process_picked (pc_given n) n runs (names_pc n) (λ count. refl) (λ i value. refl) (λ i c. refl) there same) (rw (self n) refl)
      ∙ pc_or (process_at s n)

  pub run_stands : (n : ℕ) (runs : Bool) → n < size_of s.items kinds.Process → runs_of (process_at s n).state ≡ Some runs → last_given (run_given n) false (statements_of s) ≡ runs
  run_stands n runs there same =
      last_one (run_given n) false runs (statements_of s) (is_empty_process (process_at s n)) _
      (process_picked (run_given n) n runs (names_run n) (λ count. refl) (λ i value. refl) (λ i c. refl) there same) (rw (self n) refl)
      ∙ runs_or (process_at s n) runs same

  pub place_stands : (n i : ℕ) (runs : Bool) → n < size_of s.items kinds.Process → runs_of (process_at s n).state ≡ Some runs → i < 3 → length (process_at s n).slots ≡ 3 → IsCapability (process_slot (process_at s n) i) → (process_slot (process_at s n) i).count ≡ 0 → last_given (place_given n i) null (statements_of s) ≡ process_slot (process_at s n) i
  place_stands n i runs there same below three is zero_is =
      last_one (place_given n i) null (slot_among i (bare (process_slot (process_at s n) 0)) (bare (process_slot (process_at s n) 1)) (bare (process_slot (process_at s n) 2))) (statements_of s) (is_empty_process (process_at s n)) _
      (process_picked (place_given n i) n runs (names_place n i) (λ count. refl) (λ j value. refl) (λ j c. refl) there same) (rw (self n) refl)
      ∙ place_or (process_at s n) i below three is zero_is

  -- its registers and capability registers
  running_silent : {A : Type 0} (given : Statement → Option A) (n : ℕ) → ((pc : ℕ) (space schedule handler : Capability) (runs : Bool) → given (says.Process n pc space schedule handler runs) ≡ None) → (runs : Option Bool) → Silent given (running_said n (process_at s n) runs)
  running_silent given n none None = refl
  running_silent given n none (Some runs) =
      silent_unless given _ _ (none (process_at s n).pc (bare (process_slot (process_at s n) 0)) (bare (process_slot (process_at s n) 1)) (bare (process_slot (process_at s n) 2)) runs)

  pub reg_stands : (n i : ℕ) → n < size_of s.items kinds.Process → i < 32 → last_given (reg_given n i) 0 (statements_of s) ≡ reg_of (process_at s n) i
  reg_stands n i there below =
      last_one (reg_given n i) 0 (reg_of (process_at s n) i) (statements_of s) (is_zero (reg_of (process_at s n) i)) (says.Reg n i (reg_of (process_at s n) i))
      (picked (reg_given n i) s 8 n (names_reg n i) kinds.Process refl refl there
      ∙ from_contents (reg_given n i) s (count_said kinds.Process n (count_of s.items kinds.Process n)) (itself_said s kinds.Process n) (registers_said s n ++ capregs_said s n)
      (silent_unless (reg_given n i) _ _ refl) (running_silent (reg_given n i) n (λ pc space schedule handler runs. refl) (runs_of (process_at s n).state))
      ∙ filter_map-append (reg_given n i) (registers_said s n) (capregs_said s n)
      ∙ ap (λ ys. filter_map (reg_given n i) (registers_said s n) ++ ys) (silent_below (reg_given n i) (λ j. capreg_said n j (capreg_of (process_at s n) j)) 32 (λ j within. silent_unless (reg_given n i) _ _ refl))
      ∙ append-nil (filter_map (reg_given n i) (registers_said s n))
      ∙ pick (reg_given n i) (λ j. register_said n j (reg_of (process_at s n) j)) 32 i below
      (λ j within other. let off = ne_eqb j i other in silent_unless (reg_given n i) _ (says.Reg n j (reg_of (process_at s n) j)) (rw (self n, off) refl)))
      (rw (self n, self i) refl)
      ∙ zero_or (reg_of (process_at s n) i)

  pub capreg_stands : (n i : ℕ) → n < size_of s.items kinds.Process → i < 32 → IsCapability (capreg_of (process_at s n) i) → (capreg_of (process_at s n) i).count ≡ 0 → last_given (capreg_given n i) null (statements_of s) ≡ capreg_of (process_at s n) i
  capreg_stands n i there below is zero_is =
      last_one (capreg_given n i) null (bare (capreg_of (process_at s n) i)) (statements_of s) (is_null (capreg_of (process_at s n) i)) (says.CapReg n i (bare (capreg_of (process_at s n) i)))
      (picked (capreg_given n i) s 8 n (names_capreg n i) kinds.Process refl refl there
      ∙ from_contents (capreg_given n i) s (count_said kinds.Process n (count_of s.items kinds.Process n)) (itself_said s kinds.Process n) (registers_said s n ++ capregs_said s n)
      (silent_unless (capreg_given n i) _ _ refl) (running_silent (capreg_given n i) n (λ pc space schedule handler runs. refl) (runs_of (process_at s n).state))
      ∙ filter_map-append (capreg_given n i) (registers_said s n) (capregs_said s n)
      ∙ ap (λ ys. ys ++ filter_map (capreg_given n i) (capregs_said s n)) (silent_below (capreg_given n i) (λ j. register_said n j (reg_of (process_at s n) j)) 32 (λ j within. silent_unless (capreg_given n i) _ _ refl))
      ∙ pick (capreg_given n i) (λ j. capreg_said n j (capreg_of (process_at s n) j)) 32 i below
      (λ j within other. let off = ne_eqb j i other in silent_unless (capreg_given n i) _ (says.CapReg n j (bare (capreg_of (process_at s n) j))) (rw (self n, off) refl)))
      (rw (self n, self i) refl)
      ∙ null_or (capreg_of (process_at s n) i) is zero_is

  -- ---- a capability, with the count of its object

  size_is : (kind : CapKind) → size_in (sizes_of s) kind ≡ size_of s.items kind
  size_is kinds.Page = refl
  size_is kinds.CapPage = refl
  size_is kinds.Gpt = refl
  size_is kinds.Endpoint = refl
  size_is kinds.Process = refl
  size_is _ = refl

  pub returned : (c : Capability) → IsStated (sizes_of s) c → meaning s.items (with_object_count s.items.counts c) ≡ c
  returned c stated = on (is_counted c.kind) refl
    where
      count : ℕ
      count = get_or (counts_of s.items.counts (object_kind c.kind)) c.object 0

      live : is_counted c.kind ≡ true → is_live s.items (with_count c count) ≡ true
      live counts =
          let there : c.object < size_of s.items (object_kind c.kind) = omega (arith, stated.there counts, size_is (object_kind c.kind)) in
          rw (counts, lt-ltb c.object (size_of s.items (object_kind c.kind)) there, self count) refl

      on : (b : Bool) → is_counted c.kind ≡ b → meaning s.items (if b then with_count c count else c) ≡ c
      on true counts = meaning_live s.items (with_count c count) (live counts) ∙ bare_is c stated.uncounted
      on false counts = meaning_live s.items c (rw counts refl) ∙ bare_is c stated.uncounted
