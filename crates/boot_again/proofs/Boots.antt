-- The printed statements of objects make the objects again.
use Rattle.std.proofs.Common.{ℕ, ◌≡◌, ◌<◌, List, map, length, get_or, refl, sym, ap, ◌∙◌, Some, arith}
use Rattle.std.specs.List.{range_with_len}
use Rattle.std.specs.Option.{unwrap_or}
use Rattle.std.proofs.Math.ListN.{get_or-map}
use Rattle.std.proofs.lemmas.List.{length-map}
use Rattle.std.proofs.lemmas.List.FromFn.{fill_by_all}
use Rattle.std.specs.Prelude.{Option, Bool, true, false}
use Rattle.cap_format.specs.declared.kind.CapKind.{CapKind}
use Rattle.cap_format.specs.declared.kind.CapKind.TheVariants as kinds
use Rattle.cap_format.specs.Kind.{is_object}
use Rattle.cap_format.specs.Capability.{Capability, null}
use Rattle.gpt_objects.specs.Header.{HeaderValue}
use Rattle.gpt_objects.specs.Gpt.{GptValue, IsGpt, slot_of, empty_gpt}
use Rattle.gpt_objects.proofs.Ranges.{IsCapability-slot_of}
use Rattle.page_store.specs.Page.{empty_page}
use Rattle.page_store.specs.CapPage.{IsCapPage, cap_at, empty_cappage}
use Rattle.page_store.proofs.Ranges.{IsCapability-cap_at}
use Rattle.process_objects.specs.Process.{ProcessValue, IsProcess, process_of, with_state, stopped, capreg_of, slot_of as process_slot, empty_process}
use Rattle.process_objects.proofs.Ranges.{IsCapability-capreg_of, IsCapability-slot_of as IsCapability-process_slot}
use Rattle.endpoint_objects.specs.declared.endpoint.Endpoint.{Endpoint}
use Rattle.endpoint_objects.specs.Endpoint.{empty_endpoint}
use Rattle.object_store.specs.Store.{CountsValue, Store, sizes_of, size_of, counts_of, gpt_at, page_at, cappage_at, process_at, endpoint_at, store_of}
use Rattle.object_store.specs.Meaning.{meaning, gpt_map, process_map, endpoint_map, state_map}
use Rattle.object_store.proofs.Lists.{map-map}
use Rattle.listing_read.specs.CapWord.{IsStated}
use Rattle.listing_read.specs.declared.statement.Statement.{Statement}
use Rattle.image_builder.specs.Given.{last_given, listed, with_object_count, count_given, byte_given, reg_given, cap_given, slot_given, capreg_given, place_given, final_counts, final_cap, final_page, final_cappage, final_gpt, final_endpoint, final_process, final_objects}
use Rattle.read_back.specs.Laws.{runs_of}
use Rattle.read_back.specs.Printed.{statements_of}
use Rattle.read_back.specs.Listable.{IsListable}
use Rattle.boot_again.specs.Boots.{all_stopped, PrintedObjectsBoot}
use Rattle.read_back.proofs.Stored.{page_is, cappage_is, gpt_is, endpoint_is, process_is}
use Rattle.boot_again.proofs.Stands.{some_is, count_stands, byte_stands, cap_stands, header_stands, slot_stands, endpoint_stands, pc_stands, run_stands, place_stands, reg_stands, capreg_stands, returned}

-- ---- lists of things by their numbers

filled : {A : Type 0} (f : ℕ → A) (n : ℕ) (ys : List A) (d : A) → length ys ≡ n → ((k : ℕ) → k < n → f k ≡ get_or ys k d) → listed n f ≡ ys
unfolding listed
filled f n ys d long each = sym (fill_by_all f ys n d long (λ k below. sym (each k below)))

mapped : {A B : Type 0} (h : A → B) (f : ℕ → A) (n : ℕ) (ys : List B) (d : B) → length ys ≡ n → ((k : ℕ) → k < n → h (f k) ≡ get_or ys k d) → map h (listed n f) ≡ ys
unfolding listed
mapped h f n ys d long each = map-map h f (range_with_len 0 n) ∙ sym (fill_by_all (λ k. h (f k)) ys n d long (λ k below. sym (each k below)))

-- things with equal parts
same_gpt : (h h' : HeaderValue) (xs ys : List Capability) → h ≡ h' → xs ≡ ys → ◌≡◌ {A = GptValue} (record { header = h; slots = xs }) (record { header = h'; slots = ys })
same_gpt h h' xs ys e1 e2 = rw (e1, e2) refl

same_process : (pc pc' : ℕ) (regs regs' : List ℕ) (capregs capregs' slots slots' : List Capability) → pc ≡ pc' → regs ≡ regs' → capregs ≡ capregs' → slots ≡ slots' → process_of pc regs capregs slots stopped ≡ process_of pc' regs' capregs' slots' stopped
same_process pc pc' regs regs' capregs capregs' slots slots' e1 e2 e3 e4 = rw (e1, e2, e3, e4) refl

same_counts : (a a' b b' c c' d d' e e' : List ℕ) → a ≡ a' → b ≡ b' → c ≡ c' → d ≡ d' → e ≡ e' → ◌≡◌ {A = CountsValue} (record { pages = a; cappages = b; gpts = c; processes = d; endpoints = e }) (record { pages = a'; cappages = b'; gpts = c'; processes = d'; endpoints = e' })
same_counts a a' b b' c c' d d' e e' e1 e2 e3 e4 e5 = rw (e1, e2, e3, e4, e5) refl

same_store : (harts : ℕ) (counts : CountsValue) (g g' : List GptValue) (p p' : List (List ℕ)) (c c' : List (List Capability)) (r r' : List ProcessValue) (e e' : List Endpoint) → g ≡ g' → p ≡ p' → c ≡ c' → r ≡ r' → e ≡ e' → store_of harts counts g p c r e ≡ store_of harts counts g' p' c' r' e'
same_store harts counts g g' p p' c c' r r' e e' e1 e2 e3 e4 e5 = rw (e1, e2, e3, e4, e5) refl

module _ (s : Store) (is : IsListable s) where
  -- a capability that stands there, with the count of its object
  again : (given : Statement → Option Capability) (c : Capability) → last_given given null (statements_of s) ≡ c → IsStated (sizes_of s) c → meaning s.items (final_cap s.items.counts (statements_of s) given) ≡ c
  again given c stands stated = ap (λ x. meaning s.items (with_object_count s.items.counts x)) stands ∙ returned s c stated

  -- the counts of a kind
  counts_again : (kind : CapKind) → is_object kind ≡ true → listed (size_of s.items kind) (λ n. last_given (count_given kind n) 0 (statements_of s)) ≡ counts_of s.items.counts kind
  counts_again kind object =
      filled (λ n. last_given (count_given kind n) 0 (statements_of s)) (size_of s.items kind) (counts_of s.items.counts kind) 0 refl (count_stands s kind object)

  all_counts : final_counts (sizes_of s) (statements_of s) ≡ s.items.counts
  all_counts =
      same_counts _ _ _ _ _ _ _ _ _ _
      (counts_again kinds.Page refl) (counts_again kinds.CapPage refl) (counts_again kinds.Gpt refl) (counts_again kinds.Process refl) (counts_again kinds.Endpoint refl)

  -- pages
  page_again : (n : ℕ) → n < size_of s.items kinds.Page → final_page s.items.counts (statements_of s) n ≡ page_at s n
  page_again n there =
      let page = is.pages n empty_page (page_is s is n there) in
      filled (λ i. last_given (byte_given n i) 0 (statements_of s)) 4096 (page_at s n) 0 page (λ i below. byte_stands s n i there below page)

  pages_again : listed (size_of s.items kinds.Page) (λ n. final_page s.items.counts (statements_of s) n) ≡ s.contents.pages
  pages_again = filled (λ n. final_page s.items.counts (statements_of s) n) (size_of s.items kinds.Page) s.contents.pages empty_page is.store.sized.pages page_again

  -- capability pages
  cappage_again : (n : ℕ) → n < size_of s.items kinds.CapPage → map (meaning s.items) (final_cappage s.items.counts (statements_of s) n) ≡ cappage_at s n
  cappage_again n there =
      let stored = cappage_is s is n there in
      let page : IsCapPage (cappage_at s n) = is.cappages n empty_cappage stored in
      mapped (meaning s.items) (λ i. final_cap s.items.counts (statements_of s) (cap_given n i)) 256 (cappage_at s n) null page.size
      (λ i below.
      let stated : IsStated (sizes_of s) (cap_at (cappage_at s n) i) = is.stated.cappages n empty_cappage stored i null (omega (arith, page.size)) in
      again (cap_given n i) (cap_at (cappage_at s n) i) (cap_stands s n i there below (IsCapability-cap_at (cappage_at s n) i page) stated.uncounted) stated)

  cappages_again : map (map (meaning s.items)) (listed (size_of s.items kinds.CapPage) (λ n. final_cappage s.items.counts (statements_of s) n)) ≡ s.contents.cappages
  cappages_again =
      mapped (map (meaning s.items)) (λ n. final_cappage s.items.counts (statements_of s) n) (size_of s.items kinds.CapPage) s.contents.cappages empty_cappage is.store.sized.cappages cappage_again

  -- GPTs
  gpt_again : (n : ℕ) → n < size_of s.items kinds.Gpt → gpt_map (meaning s.items) (final_gpt s.items.counts (statements_of s) n) ≡ gpt_at s.items n
  gpt_again n there =
      let stored = gpt_is s is n there in
      let gpt : IsGpt (gpt_at s.items n) = is.store.ranged.gpts n empty_gpt stored in
      same_gpt _ _ _ _ (header_stands s n there)
      (mapped (meaning s.items) (λ i. final_cap s.items.counts (statements_of s) (slot_given n i)) 16 (gpt_at s.items n).slots null gpt.sixteen
      (λ i below.
      let stated : IsStated (sizes_of s) (slot_of (gpt_at s.items n) i) = is.stated.slots n empty_gpt stored i null (omega (arith, gpt.sixteen)) in
      again (slot_given n i) (slot_of (gpt_at s.items n) i) (slot_stands s n i there below (IsCapability-slot_of (gpt_at s.items n) i gpt) stated.uncounted) stated))

  gpts_again : map (gpt_map (meaning s.items)) (listed (size_of s.items kinds.Gpt) (λ n. final_gpt s.items.counts (statements_of s) n)) ≡ s.items.gpts
  gpts_again =
      mapped (gpt_map (meaning s.items)) (λ n. final_gpt s.items.counts (statements_of s) n) (size_of s.items kinds.Gpt) s.items.gpts empty_gpt is.store.ranged.each gpt_again

  -- endpoints
  endpoint_again : (n : ℕ) → n < size_of s.items kinds.Endpoint → endpoint_map (meaning s.items) (final_endpoint s.items.counts (statements_of s) n) ≡ endpoint_at s n
  endpoint_again n there =
      let stored = endpoint_is s is n there in
      let stated : IsStated (sizes_of s) (endpoint_at s n).recipient = is.stated.recipients n empty_endpoint stored in
      ap (λ given. endpoint_map (meaning s.items) (let e : Endpoint = record given { recipient = with_object_count s.items.counts given.recipient } in e)) (endpoint_stands s n there (is.recipients n empty_endpoint stored) stated.uncounted)
      ∙ ap (λ recipient. let e : Endpoint = record (endpoint_at s n) { recipient = recipient } in e) (returned s (endpoint_at s n).recipient stated)

  endpoints_again : map (endpoint_map (meaning s.items)) (listed (size_of s.items kinds.Endpoint) (λ n. final_endpoint s.items.counts (statements_of s) n)) ≡ s.contents.endpoints
  endpoints_again =
      mapped (endpoint_map (meaning s.items)) (λ n. final_endpoint s.items.counts (statements_of s) n) (size_of s.items kinds.Endpoint) s.contents.endpoints empty_endpoint is.store.sized.endpoints endpoint_again

  -- processes
  runs : ℕ → Bool
  runs n = unwrap_or (runs_of (process_at s n).state) false

  runs_is : (n : ℕ) → n < size_of s.items kinds.Process → runs_of (process_at s n).state ≡ Some (runs n)
  unfolding runs
  runs_is n there = some_is (runs_of (process_at s n).state) (is.running n empty_process (process_is s is n there))

  process_again : (n : ℕ) → n < size_of s.items kinds.Process → process_map (meaning s.items) (final_process s.items.counts (statements_of s) n) ≡ with_state (process_at s n) stopped
  process_again n there =
      let stored = process_is s is n there in
      let process : IsProcess (process_at s n) = is.processes n empty_process stored in
      same_process _ _ _ _ _ _ _ _
      (pc_stands s n (runs n) there (runs_is n there))
      (filled (λ i. last_given (reg_given n i) 0 (statements_of s)) 32 (process_at s n).regs 0 process.registers (λ i below. reg_stands s n i there below))
      (mapped (meaning s.items) (λ i. final_cap s.items.counts (statements_of s) (capreg_given n i)) 32 (process_at s n).capregs null process.cap_registers
      (λ i below.
      let stated : IsStated (sizes_of s) (capreg_of (process_at s n) i) = is.stated.capregs n empty_process stored i null (omega (arith, process.cap_registers)) in
      again (capreg_given n i) (capreg_of (process_at s n) i) (capreg_stands s n i there below (IsCapability-capreg_of (process_at s n) i process) stated.uncounted) stated))
      (mapped (meaning s.items) (λ i. final_cap s.items.counts (statements_of s) (place_given n i)) 3 (process_at s n).slots null process.three
      (λ i below.
      let stated : IsStated (sizes_of s) (process_slot (process_at s n) i) = is.stated.process_slots n empty_process stored i null (omega (arith, process.three)) in
      again (place_given n i) (process_slot (process_at s n) i)
      (place_stands s n i (runs n) there (runs_is n there) below process.three (IsCapability-process_slot (process_at s n) i process) stated.uncounted) stated))

  processes_again : map (process_map (meaning s.items)) (listed (size_of s.items kinds.Process) (λ n. final_process s.items.counts (statements_of s) n)) ≡ map (λ process. with_state process stopped) s.contents.processes
  processes_again =
      let long = length-map s.contents.processes (λ (process : ProcessValue). with_state process stopped) in
      mapped (process_map (meaning s.items)) (λ n. final_process s.items.counts (statements_of s) n) (size_of s.items kinds.Process)
      (map (λ process. with_state process stopped) s.contents.processes) (with_state empty_process stopped) (long ∙ is.store.sized.processes)
      (λ n there. process_again n there ∙ sym (get_or-map (λ (process : ProcessValue). with_state process stopped) s.contents.processes n empty_process))

  -- all objects
  objects_again : state_map (final_objects s.items.counts (statements_of s) (sizes_of s)) ≡ all_stopped s
  objects_again = same_store s.harts s.items.counts _ _ _ _ _ _ _ _ _ _ gpts_again pages_again cappages_again processes_again endpoints_again

pub boots : PrintedObjectsBoot
boots s is =
    record {
      objects = ap (λ counts. state_map (final_objects counts (statements_of s) (sizes_of s))) (all_counts s is) ∙ objects_again s is;
      running = λ p there. ap Some (run_stands s p (runs s is p) there (runs_is s is p there)) ∙ sym (runs_is s is p there);
    }
