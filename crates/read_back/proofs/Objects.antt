-- The printed objects list their statements.
use Rattle.std.proofs.Common.{ℕ, ◌≡◌, ◌*◌, ◌^◌, ◌<◌, ◌≤◌, ◌==◌, Bool, true, false, List, [], ◌++◌, All, length, drop, refl, ap, ◌∙◌, inl, inr, arith, length-drop}
use Rattle.std.specs.Prelude.{Option, Some, None, codes}
use Rattle.std.specs.List.{list_all}
use Rattle.std.specs.Option.{is_some}
use Rattle.std.proofs.lemmas.Bool.{cases_lt}
use Rattle.std.proofs.lemmas.Bool.Decides.{nat_tests}
use Rattle.std.proofs.lemmas.List.{length-take-le}
use Rattle.std.proofs.lemmas.List.Elements.{All-take, All-drop}
use Rattle.cap_format.specs.declared.kind.CapKind.{CapKind}
use Rattle.cap_format.specs.declared.kind.CapKind.TheVariants as kinds
use Rattle.cap_format.specs.Kind.{is_object}
use Rattle.cap_format.specs.Capability.{Capability, IsCapability, bare, null}
use Rattle.gpt_objects.specs.Header.{HeaderValue, IsHeader}
use Rattle.gpt_objects.specs.Gpt.{IsGpt, slot_of, empty_gpt}
use Rattle.gpt_objects.proofs.Ranges.{IsCapability-slot_of}
use Rattle.page_store.specs.Page.{IsPage, bytes_at, empty_page}
use Rattle.page_store.specs.CapPage.{IsCapPage, cap_at, empty_cappage}
use Rattle.page_store.proofs.Ranges.{IsCapability-cap_at}
use Rattle.process_objects.specs.Process.{ProcessValue, IsProcess, reg_of, capreg_of, slot_of as process_slot, empty_process}
use Rattle.process_objects.proofs.Ranges.{IsCapability-capreg_of}
use Rattle.endpoint_objects.specs.declared.endpoint.Endpoint.{Endpoint}
use Rattle.endpoint_objects.specs.Endpoint.{empty_endpoint}
use Rattle.object_store.specs.declared.sizes.Sizes.{Sizes}
use Rattle.object_store.specs.Store.{Store, sizes_of, size_of, count_of, counts_of, gpt_at, page_at, cappage_at, process_at, endpoint_at}
use Rattle.object_store.specs.Ranges.{IsWithinLimits}
use Rattle.object_store.specs.Sizes.{size_in}
use Rattle.listing_read.specs.CapWord.{IsStated}
use Rattle.listing_read.specs.Statement.{is_recipient}
use Rattle.listing_read.specs.declared.statement.Statement.TheVariants as says
use Rattle.run_text.specs.Objects.{is_zero, is_null, is_empty_header, is_empty_endpoint, is_empty_process, count_text, row_text, slot_text, header_text, endpoint_text, process_text, register_text, part_text, statement_text, contents_text, object_text}
use Rattle.run_text.specs.State.{kind_text, objects_text}
use Rattle.read_back.specs.Laws.{runs_of}
use Rattle.statement_text.specs.Lists.{Lists}
use Rattle.statement_text.proofs.Listed.{nothing, both}
use Rattle.listing_read.specs.Terms.{terms_of}
use Rattle.listing_read.specs.declared.terms.Version.TheVariants.{One}
use Rattle.read_back.specs.Printed.{count_said, row_said, cap_said, header_said, slot_said, endpoint_said, running_said, register_said, capreg_said, rows_said, caps_said, slots_said, registers_said, capregs_said, itself_said, contents_said, object_said, kind_said, statements_of}
use Rattle.read_back.specs.Listable.{IsListable}
use Rattle.read_back.specs.ObjectLaws.{ObjectsAreListed}
use Rattle.read_back.proofs.Listed.{each, unless}
use Rattle.read_back.proofs.Stored.{limits, page_is, cappage_is, gpt_is, endpoint_is, process_is}
use Rattle.read_back.proofs.Statements.{count_reads, row_reads, cap_reads, header_reads, slot_reads, endpoint_reads, process_reads, register_reads, capreg_reads}

-- ---- what is as in the empty object has no text

no_count : (kind : CapKind) (n count : ℕ) → (count == 0) ≡ true → count_text kind n count ≡ []
unfolding count_text
no_count kind n count empty = rw empty refl

no_row : (n at : ℕ) (bytes : List ℕ) → list_all (λ byte. byte == 0) bytes ≡ true → row_text n at bytes ≡ []
unfolding row_text
no_row n at bytes empty = rw empty refl

no_slot : (word : List ℕ) (n i : ℕ) (c : Capability) → is_null c ≡ true → slot_text word n i c ≡ []
unfolding slot_text
no_slot word n i c empty = rw empty refl

no_header : (n : ℕ) (header : HeaderValue) → is_empty_header header ≡ true → header_text n header ≡ []
unfolding header_text
no_header n header empty = rw empty refl

no_endpoint : (n : ℕ) (e : Endpoint) → is_empty_endpoint e ≡ true → endpoint_text n e ≡ []
unfolding endpoint_text
no_endpoint n e empty = rw empty refl

no_process : (n : ℕ) (p : ProcessValue) → is_empty_process p ≡ true → process_text n p ≡ []
unfolding process_text
no_process n p empty = rw empty refl

no_register : (n i value : ℕ) → is_zero value ≡ true → register_text n i value ≡ []
unfolding register_text
no_register n i value empty = rw empty refl

-- a number that is not 0
above : (n : ℕ) → (n == 0) ≡ false → 1 ≤ n
above n some = grind (arith, nat_tests)

-- a capability without its count
uncounted : {sizes : Sizes} {c : Capability} → IsStated sizes c → IsStated sizes (bare c)
uncounted stated = record { uncounted = refl; there = stated.there }

-- what is not as in register 0 stands in another one
past_x0 : (i value : ℕ) → (i ≡ 0 → value ≡ 0) → 1 ≤ value → 1 ≤ i
past_x0 i value x0 some = elim (cases_lt 0 i) [
  | inl first ↦ first
  | inr none ↦ let e : value ≡ 0 = x0 (omega arith) in absurd (omega arith)
]

past_c0 : (i : ℕ) (c : Capability) → (i ≡ 0 → c ≡ null) → is_null c ≡ false → 1 ≤ i
past_c0 i c c0 some = elim (cases_lt 0 i) [
  | inl first ↦ first
  | inr none ↦ let e : is_null c ≡ true = ap is_null (c0 (omega arith)) in absurd (cc)
]

-- ---- the lines of each thing, in a machine within its limits

module _ (sizes : Sizes) (limits : IsWithinLimits sizes) where
  count_lists : (kind : CapKind) (n count : ℕ) → n < size_in sizes kind → count < 2 ^ 20 → is_object kind ≡ true → Lists (terms_of One sizes) (count_text kind n count) (count_said kind n count)
  count_lists kind n count there fits object =
      unless (terms_of One sizes) (count == 0) (count_text kind n count) (says.Count kind n count) (no_count kind n count)
      (λ some. count_reads sizes kind n count limits (there, omega arith, object) (above count some))

  row_lists : (n row : ℕ) (page : List ℕ) → n < sizes.pages → IsPage page → All (λ byte. byte < 256) page → row < 256 → Lists (terms_of One sizes) (row_text n (16 * row) (bytes_at page (16 * row) 16)) (row_said n (16 * row) (bytes_at page (16 * row) 16))
  row_lists n row page there is each_byte below =
      let sixteen : length (bytes_at page (16 * row) 16) ≡ 16 = length-take-le 16 (drop (16 * row) page) (omega (arith, length-drop (16 * row) page)) in
      unless (terms_of One sizes) (list_all (λ byte. byte == 0) (bytes_at page (16 * row) 16)) (row_text n (16 * row) (bytes_at page (16 * row) 16)) (says.Page n (16 * row) (bytes_at page (16 * row) 16))
      (no_row n (16 * row) (bytes_at page (16 * row) 16))
      (row_reads sizes n (16 * row) (bytes_at page (16 * row) 16) limits (there, omega arith, omega arith) sixteen
      (All-take (λ byte. byte < 256) 16 (drop (16 * row) page) (All-drop (λ byte. byte < 256) (16 * row) page each_byte)))

  cap_lists : (n i : ℕ) (c : Capability) → n < sizes.cappages → i < 256 → IsCapability c → IsStated sizes (bare c) → Lists (terms_of One sizes) (slot_text (codes "cap") n i c) (cap_said n i c)
  cap_lists n i c there below in_range stated =
      unless (terms_of One sizes) (is_null c) (slot_text (codes "cap") n i c) (says.CapSlot n i (bare c)) (no_slot (codes "cap") n i c)
      (cap_reads sizes n i c limits (there, stated) below in_range)

  header_lists : (n : ℕ) (header : HeaderValue) → n < sizes.gpts → IsHeader header → Lists (terms_of One sizes) (header_text n header) (header_said n header)
  header_lists n header there in_range =
      unless (terms_of One sizes) (is_empty_header header) (header_text n header) (says.Gpt n header) (no_header n header)
      (header_reads sizes n header limits there in_range)

  slot_lists : (n i : ℕ) (c : Capability) → n < sizes.gpts → i < 16 → IsCapability c → IsStated sizes (bare c) → Lists (terms_of One sizes) (slot_text (codes "slot") n i c) (slot_said n i c)
  slot_lists n i c there below in_range stated =
      unless (terms_of One sizes) (is_null c) (slot_text (codes "slot") n i c) (says.GptSlot n i (bare c)) (no_slot (codes "slot") n i c)
      (slot_reads sizes n i c limits (there, below, stated) in_range)

  endpoint_lists : (n : ℕ) (e : Endpoint) → n < sizes.endpoints → is_recipient e.recipient.kind ≡ true → IsStated sizes (bare e.recipient) → IsCapability e.recipient → e.id < 2 ^ 32 → e.payload < 2 ^ 32 → Lists (terms_of One sizes) (endpoint_text n e) (endpoint_said n e)
  endpoint_lists n e there receives stated in_range id payload =
      unless (terms_of One sizes) (is_empty_endpoint e) (endpoint_text n e) (says.Endpoint n (bare e.recipient) e.id e.payload e.matching) (no_endpoint n e)
      (endpoint_reads sizes n e limits (there, receives, stated) in_range id payload)

  running_lists : (n : ℕ) (p : ProcessValue) (runs : Option Bool) → runs_of p.state ≡ runs → is_some runs ≡ true → n < sizes.processes → IsProcess p → p.pc < 2 ^ 32 → ((i : ℕ) → i < 3 → IsStated sizes (bare (process_slot p i))) → Lists (terms_of One sizes) (process_text n p) (running_said n p runs)
  running_lists n p None same some there is fits stated = absurd (cc)
  running_lists n p (Some runs) same some there is fits stated =
      unless (terms_of One sizes) (is_empty_process p) (process_text n p) (says.Process n p.pc (bare (process_slot p 0)) (bare (process_slot p 1)) (bare (process_slot p 2)) runs)
      (no_process n p)
      (process_reads sizes n p runs limits (there, is.aligned, stated 0 (omega arith), stated 1 (omega arith), stated 2 (omega arith)) is fits same)

  register_lists : (n i value : ℕ) → n < sizes.processes → i < 32 → (i ≡ 0 → value ≡ 0) → value < 2 ^ 32 → Lists (terms_of One sizes) (register_text n i value) (register_said n i value)
  register_lists n i value there below x0 fits =
      unless (terms_of One sizes) (is_zero value) (register_text n i value) (says.Reg n i value) (no_register n i value)
      (λ some. register_reads sizes n i value limits (there, below, past_x0 i value x0 (above value some)) fits (above value some))

  capreg_lists : (n i : ℕ) (c : Capability) → n < sizes.processes → i < 32 → (i ≡ 0 → c ≡ null) → IsCapability c → IsStated sizes (bare c) → Lists (terms_of One sizes) (slot_text (codes "capreg") n i c) (capreg_said n i c)
  capreg_lists n i c there below c0 in_range stated =
      unless (terms_of One sizes) (is_null c) (slot_text (codes "capreg") n i c) (says.CapReg n i (bare c)) (no_slot (codes "capreg") n i c)
      (λ some. capreg_reads sizes n i c limits (there, below, past_c0 i c c0 some, stated) in_range some)

-- ---- the objects of a store

module _ (s : Store) (is : IsListable s) where
  -- the parts of each kind of objects
  rows_list : (n : ℕ) → n < size_of s.items kinds.Page → Lists (terms_of One (sizes_of s)) (contents_text s kinds.Page n) (rows_said s n)
  unfolding part_text
  rows_list n there =
      let stored = page_is s is n there in
      each (terms_of One (sizes_of s)) _ (λ i. row_said n (16 * i) (bytes_at (page_at s n) (16 * i) 16)) 256
      (λ i below. row_lists (sizes_of s) (limits s is) n i (page_at s n) there (is.pages n empty_page stored) (is.bytes n empty_page stored) below)

  caps_list : (n : ℕ) → n < size_of s.items kinds.CapPage → Lists (terms_of One (sizes_of s)) (contents_text s kinds.CapPage n) (caps_said s n)
  unfolding part_text
  caps_list n there =
      let stored = cappage_is s is n there in
      let page : IsCapPage (cappage_at s n) = is.cappages n empty_cappage stored in
      each (terms_of One (sizes_of s)) _ (λ i. cap_said n i (cap_at (cappage_at s n) i)) 256
      (λ i below. cap_lists (sizes_of s) (limits s is) n i (cap_at (cappage_at s n) i) there below (IsCapability-cap_at (cappage_at s n) i page)
      (uncounted (is.stated.cappages n empty_cappage stored i null (omega (arith, page.size)))))

  slots_list : (n : ℕ) → n < size_of s.items kinds.Gpt → Lists (terms_of One (sizes_of s)) (contents_text s kinds.Gpt n) (slots_said s n)
  unfolding part_text
  slots_list n there =
      let stored = gpt_is s is n there in
      let gpt : IsGpt (gpt_at s.items n) = is.store.ranged.gpts n empty_gpt stored in
      each (terms_of One (sizes_of s)) _ (λ i. slot_said n i (slot_of (gpt_at s.items n) i)) 16
      (λ i below. slot_lists (sizes_of s) (limits s is) n i (slot_of (gpt_at s.items n) i) there below (IsCapability-slot_of (gpt_at s.items n) i gpt)
      (uncounted (is.stated.slots n empty_gpt stored i null (omega (arith, gpt.sixteen)))))

  registers_list : (n : ℕ) → n < size_of s.items kinds.Process → Lists (terms_of One (sizes_of s)) (contents_text s kinds.Process n) (registers_said s n ++ capregs_said s n)
  unfolding part_text
  registers_list n there =
      let stored = process_is s is n there in
      let process : IsProcess (process_at s n) = is.processes n empty_process stored in
      both (terms_of One (sizes_of s)) _ _ _ _
      (each (terms_of One (sizes_of s)) _ (λ i. register_said n i (reg_of (process_at s n) i)) 32
      (λ i below. register_lists (sizes_of s) (limits s is) n i (reg_of (process_at s n) i) there below (λ x0. ap (reg_of (process_at s n)) x0 ∙ process.x0)
      (is.registers n empty_process stored i 0 (omega (arith, process.registers)))))
      (each (terms_of One (sizes_of s)) _ (λ i. capreg_said n i (capreg_of (process_at s n) i)) 32
      (λ i below. capreg_lists (sizes_of s) (limits s is) n i (capreg_of (process_at s n) i) there below (λ c0. ap (capreg_of (process_at s n)) c0 ∙ process.c0)
      (IsCapability-capreg_of (process_at s n) i process) (uncounted (is.stated.capregs n empty_process stored i null (omega (arith, process.cap_registers))))))

  -- an object, of a kind whose sizes and counts are these
  object_lists : (kind : CapKind) → is_object kind ≡ true → size_of s.items kind ≡ size_in (sizes_of s) kind → All (λ count. count < 2 ^ 20) (counts_of s.items.counts kind) → ((n : ℕ) → n < size_of s.items kind → Lists (terms_of One (sizes_of s)) (statement_text s kind n) (itself_said s kind n)) → ((n : ℕ) → n < size_of s.items kind → Lists (terms_of One (sizes_of s)) (contents_text s kind n) (contents_said s kind n)) → (n : ℕ) → n < size_of s.items kind → Lists (terms_of One (sizes_of s)) (object_text s kind n) (object_said s kind n)
  unfolding object_text
  object_lists kind object same counts itself contents n there =
      both (terms_of One (sizes_of s)) _ _ _ _
      (both (terms_of One (sizes_of s)) _ _ _ _ (count_lists (sizes_of s) (limits s is) kind n (count_of s.items kind n) (omega arith) (counts n 0 there) object) (itself n there))
      (contents n there)

  -- all objects of a kind
  kind_lists : (kind : CapKind) → ((n : ℕ) → n < size_of s.items kind → Lists (terms_of One (sizes_of s)) (object_text s kind n) (object_said s kind n)) → Lists (terms_of One (sizes_of s)) (kind_text s kind) (kind_said s kind)
  kind_lists kind all = each (terms_of One (sizes_of s)) (object_text s kind) (object_said s kind) (size_of s.items kind) all

  -- what an object is, beside its parts
  gpt_itself : (n : ℕ) → n < size_of s.items kinds.Gpt → Lists (terms_of One (sizes_of s)) (statement_text s kinds.Gpt n) (itself_said s kinds.Gpt n)
  gpt_itself n there =
      let gpt : IsGpt (gpt_at s.items n) = is.store.ranged.gpts n empty_gpt (gpt_is s is n there) in
      header_lists (sizes_of s) (limits s is) n (gpt_at s.items n).header there gpt.header

  endpoint_itself : (n : ℕ) → n < size_of s.items kinds.Endpoint → Lists (terms_of One (sizes_of s)) (statement_text s kinds.Endpoint n) (itself_said s kinds.Endpoint n)
  endpoint_itself n there =
      let stored = endpoint_is s is n there in
      endpoint_lists (sizes_of s) (limits s is) n (endpoint_at s n) there (is.receive n empty_endpoint stored) (uncounted (is.stated.recipients n empty_endpoint stored))
      (is.recipients n empty_endpoint stored) (is.ids n empty_endpoint stored) (is.payloads n empty_endpoint stored)

  process_itself : (n : ℕ) → n < size_of s.items kinds.Process → Lists (terms_of One (sizes_of s)) (statement_text s kinds.Process n) (itself_said s kinds.Process n)
  process_itself n there =
      let stored = process_is s is n there in
      let process : IsProcess (process_at s n) = is.processes n empty_process stored in
      running_lists (sizes_of s) (limits s is) n (process_at s n) (runs_of (process_at s n).state) refl (is.running n empty_process stored) there process (is.pcs n empty_process stored)
      (λ i below. uncounted (is.stated.process_slots n empty_process stored i null (omega (arith, process.three))))

-- all objects
pub objects_listed : ObjectsAreListed
unfolding objects_text statements_of
objects_listed s is =
    both (terms_of One (sizes_of s)) _ _ _ _
    (kind_lists s is kinds.Page (object_lists s is kinds.Page refl refl is.store.ranged.counts.pages.below (λ n there. nothing (terms_of One (sizes_of s))) (rows_list s is)))
    (both (terms_of One (sizes_of s)) _ _ _ _
    (kind_lists s is kinds.CapPage (object_lists s is kinds.CapPage refl refl is.store.ranged.counts.cappages.below (λ n there. nothing (terms_of One (sizes_of s))) (caps_list s is)))
    (both (terms_of One (sizes_of s)) _ _ _ _
    (kind_lists s is kinds.Gpt (object_lists s is kinds.Gpt refl refl is.store.ranged.counts.gpts.below (gpt_itself s is) (slots_list s is)))
    (both (terms_of One (sizes_of s)) _ _ _ _
    (kind_lists s is kinds.Endpoint (object_lists s is kinds.Endpoint refl refl is.store.ranged.counts.endpoints.below (endpoint_itself s is) (λ n there. nothing (terms_of One (sizes_of s)))))
    (kind_lists s is kinds.Process (object_lists s is kinds.Process refl refl is.store.ranged.counts.processes.below (process_itself s is) (registers_list s is))))))
