-- The objects of a listing, before any process is made ready, are such that a listing can say them.
use Rattle.std.proofs.Common.{ℕ, ◌≡◌, ◌%◌, ◌^◌, ◌<◌, ◌≤◌, true, List, map, length, get_or, refl, sym, ap, subst, ◌∙◌, arith}
use Rattle.std.specs.List.{All}
use Rattle.std.specs.Option.{is_some, IfSome}
use Rattle.std.specs.Prelude.{Option}
use Rattle.std.proofs.Math.ListN.{get_or-map}
use Rattle.std.proofs.lemmas.List.{length-map}
use Rattle.std.proofs.lemmas.List.Elements.{All-map}
use Rattle.std.proofs.lemmas.List.FromFn.{length-map-range_with_len, get_or-map-range_with_len}
use Rattle.cap_format.specs.declared.kind.CapKind.{CapKind}
use Rattle.cap_format.specs.declared.kind.CapKind.TheVariants as kinds
use Rattle.cap_format.specs.Capability.{Capability, IsCapability, null}
use Rattle.gpt_objects.specs.Header.{IsHeader, empty_header}
use Rattle.gpt_objects.specs.Gpt.{GptValue, IsGpt}
use Rattle.page_store.specs.Page.{IsPage}
use Rattle.page_store.specs.CapPage.{IsCapPage}
use Rattle.process_objects.specs.Process.{ProcessValue, IsProcess}
use Rattle.endpoint_objects.specs.declared.endpoint.Endpoint.{Endpoint}
use Rattle.endpoint_objects.specs.Endpoint.{empty_endpoint}
use Rattle.object_store.specs.declared.sizes.Sizes.{Sizes}
use Rattle.object_store.specs.Store.{Store, sizes_of}
use Rattle.object_store.specs.Ranges.{IsTable, IsWithinLimits}
use Rattle.object_store.specs.Meaning.{meaning, gpt_map, process_map, endpoint_map, state_map}
use Rattle.listing_read.specs.CapWord.{IsStated}
use Rattle.listing_read.specs.Statement.{ListingValue, IsListing, IsStatement, IsTyped, is_recipient}
use Rattle.listing_read.specs.declared.statement.Statement.{Statement}
use Rattle.image_builder.specs.Given.{last_given, listed, with_object_count, count_given, byte_given, cap_given, header_given, slot_given, endpoint_given, pc_given, place_given, reg_given, capreg_given, final_cap, final_gpt, final_endpoint, final_process}
use Rattle.image_builder.specs.Boot.{objects_of}
use Rattle.read_back.specs.Laws.{runs_of}
use Rattle.read_back.specs.Listable.{IsListable}
use Rattle.boot_again.proofs.Kept.{Holds, IsKept, IsKeptEndpoint, kept-null, last_kept, count_kept, byte_kept, cap_kept, header_kept, slot_kept, endpoint_kept, pc_kept, place_kept, reg_kept, capreg_kept, x0_kept, c0_kept}
use Rattle.boot_again.proofs.Stands.{returned}

-- ---- lists of things by their numbers

length-listed : {A : Type 0} (n : ℕ) (f : ℕ → A) → length (listed n f) ≡ n
unfolding listed
length-listed n f = length-map-range_with_len f 0 n

get_or-listed : {A : Type 0} (n : ℕ) (f : ℕ → A) (i : ℕ) (d : A) → i < n → get_or (listed n f) i d ≡ f i
unfolding listed
get_or-listed n f i d below = get_or-map-range_with_len f 0 n i i d below (omega arith)

each : {A : Type 0} (P : A → Type 0) (n : ℕ) (f : ℕ → A) → ((k : ℕ) → P (f k)) → All P (listed n f)
each P n f all k d there =
    let long = length-listed n f in
    subst P (sym (get_or-listed n f k d (omega arith))) (all k)

-- things that a function was applied to
pub mapped_each : {A B : Type 0} (P : B → Type 0) (h : A → B) (n : ℕ) (f : ℕ → A) → ((k : ℕ) → P (h (f k))) → All P (map h (listed n f))
mapped_each P h n f all = All-map P h (listed n f) (each (λ x. P (h x)) n f all)

pub length-mapped : {A B : Type 0} (h : A → B) (n : ℕ) (f : ℕ → A) → length (map h (listed n f)) ≡ n
length-mapped h n f = length-map (listed n f) h ∙ length-listed n f

-- ---- the objects of a listing

-- their sizes
pub sizes-objects_of : (listing : ListingValue) → sizes_of (objects_of listing) ≡ listing.sizes
sizes-objects_of listing = simp length-listed

module _ (listing : ListingValue) (is : IsListing listing) (typed : All IsTyped listing.statements) where
  abbrev o : Store
  o = objects_of listing

  abbrev xs : List Statement
  xs = listing.statements

  -- what all statements keep
  all : All (Holds (sizes_of o)) xs
  all k x there =
      (subst (λ (sizes : Sizes). IsStatement sizes (get_or listing.statements k x)) (sym (sizes-objects_of listing)) (is.statements k x there), typed k x there)

  -- a capability with the count of its object means what was stated
  meant : (c : Capability) → IsKept (sizes_of o) c → IsKept (sizes_of o) (meaning o.items (with_object_count o.items.counts c))
  meant c kept = subst (IsKept (sizes_of o)) (sym (returned o c kept.1)) kept

  cap_again : (given : Statement → Option Capability) → ((x : Statement) → Holds (sizes_of o) x → IfSome (given x) (IsKept (sizes_of o))) → IsKept (sizes_of o) (meaning o.items (final_cap o.items.counts xs given))
  cap_again given gives = meant (last_given given null xs) (last_kept (IsKept (sizes_of o)) (Holds (sizes_of o)) given gives null xs (kept-null (sizes_of o)) all)

  limits : IsWithinLimits (sizes_of o)
  limits = subst IsWithinLimits (sym (sizes-objects_of listing)) is.limits

  -- the counts of a kind
  counts_are : (kind : CapKind) (limit n : ℕ) → n ≤ limit → IsTable limit (listed n (λ k. last_given (count_given kind k) 0 xs))
  counts_are kind limit n within =
      let long = length-listed n (λ k. last_given (count_given kind k) 0 xs) in
      record {
        size = omega (arith, long);
        below = each (λ count. count < 2 ^ 20) n _ (λ k. last_kept (λ count. count < 2 ^ 20) (Holds (sizes_of o)) (count_given kind k) (count_kept (sizes_of o) kind k) 0 xs (omega arith) all);
      }

  byte_again : (n i : ℕ) → last_given (byte_given n i) 0 xs < 256
  byte_again n i = last_kept (λ byte. byte < 256) (Holds (sizes_of o)) (byte_given n i) (byte_kept (sizes_of o) n i) 0 xs (omega arith) all

  slots_again : (g : ℕ) (i : ℕ) → IsKept (sizes_of o) (meaning o.items (final_cap o.items.counts xs (slot_given g i)))
  slots_again g i = cap_again (slot_given g i) (slot_kept (sizes_of o) limits g i)

  caps_again : (n i : ℕ) → IsKept (sizes_of o) (meaning o.items (final_cap o.items.counts xs (cap_given n i)))
  caps_again n i = cap_again (cap_given n i) (cap_kept (sizes_of o) n i)

  capregs_again : (p i : ℕ) → IsKept (sizes_of o) (meaning o.items (final_cap o.items.counts xs (capreg_given p i)))
  capregs_again p i = cap_again (capreg_given p i) (capreg_kept (sizes_of o) p i)

  places_again : (p i : ℕ) → IsKept (sizes_of o) (meaning o.items (final_cap o.items.counts xs (place_given p i)))
  places_again p i = cap_again (place_given p i) (place_kept (sizes_of o) p i)

  -- GPTs
  gpt_again : (g : ℕ) → IsGpt (gpt_map (meaning o.items) (final_gpt o.items.counts xs g))
  gpt_again g = record {
    header = last_kept IsHeader (Holds (sizes_of o)) (header_given g) (header_kept (sizes_of o) g) empty_header xs (record { low = omega arith; high = omega arith }) all;
    sixteen = length-mapped (meaning o.items) 16 _;
    slots = mapped_each IsCapability (meaning o.items) 16 _ (λ i. (slots_again g i).0);
  }

  -- endpoints
  endpoint_kept_again : (n : ℕ) → IsKeptEndpoint (sizes_of o) (last_given (endpoint_given n) empty_endpoint xs)
  endpoint_kept_again n =
      last_kept (IsKeptEndpoint (sizes_of o)) (Holds (sizes_of o)) (endpoint_given n) (endpoint_kept (sizes_of o) n) empty_endpoint xs
      (kept-null (sizes_of o), refl, omega arith, omega arith) all

  endpoint_again : (n : ℕ) → IsKeptEndpoint (sizes_of o) (endpoint_map (meaning o.items) (final_endpoint o.items.counts xs n))
  endpoint_again n =
      let kept = endpoint_kept_again n in
      let same = returned o (last_given (endpoint_given n) empty_endpoint xs).recipient kept.0.1 in
      (meant (last_given (endpoint_given n) empty_endpoint xs).recipient kept.0, ap (λ (c : Capability). is_recipient c.kind) same ∙ kept.1, kept.2, kept.3)

  -- processes
  pc_again : (p : ℕ) → (last_given (pc_given p) 0 xs % 4 ≡ 0) × (last_given (pc_given p) 0 xs < 2 ^ 32)
  pc_again p = last_kept (λ pc. (pc % 4 ≡ 0) × (pc < 2 ^ 32)) (Holds (sizes_of o)) (pc_given p) (pc_kept (sizes_of o) p) 0 xs (omega arith, omega arith) all

  reg_again : (p i : ℕ) → last_given (reg_given p i) 0 xs < 2 ^ 32
  reg_again p i = last_kept (λ value. value < 2 ^ 32) (Holds (sizes_of o)) (reg_given p i) (reg_kept (sizes_of o) p i) 0 xs (omega arith) all

  x0_again : (p : ℕ) → last_given (reg_given p 0) 0 xs ≡ 0
  x0_again p = last_kept (λ value. value ≡ 0) (Holds (sizes_of o)) (reg_given p 0) (x0_kept (sizes_of o) p) 0 xs refl all

  c0_again : (p : ℕ) → last_given (capreg_given p 0) null xs ≡ null
  c0_again p = last_kept (λ c. c ≡ null) (Holds (sizes_of o)) (capreg_given p 0) (c0_kept (sizes_of o) p) null xs refl all

  process_again : (p : ℕ) → IsProcess (process_map (meaning o.items) (final_process o.items.counts xs p))
  process_again p = record {
    aligned = (pc_again p).0;
    registers = length-listed 32 (λ i. last_given (reg_given p i) 0 xs);
    x0 = get_or-listed 32 (λ i. last_given (reg_given p i) 0 xs) 0 0 (omega arith) ∙ x0_again p;
    cap_registers = length-mapped (meaning o.items) 32 _;
    c0 = get_or-map (meaning o.items) (listed 32 (λ i. final_cap o.items.counts xs (capreg_given p i))) 0 null
        ∙ ap (meaning o.items) (get_or-listed 32 (λ i. final_cap o.items.counts xs (capreg_given p i)) 0 null (omega arith))
        ∙ ap (λ c. meaning o.items (with_object_count o.items.counts c)) (c0_again p);
    capregs = mapped_each IsCapability (meaning o.items) 32 _ (λ i. (capregs_again p i).0);
    three = length-mapped (meaning o.items) 3 _;
    slots = mapped_each IsCapability (meaning o.items) 3 _ (λ i. (places_again p i).0);
    state = tt;
  }

  -- all of it
  pub listable-at_rest : IsListable (state_map o)
  listable-at_rest = record {
    store = record {
      ranged = record {
        counts = record {
          pages = counts_are kinds.Page 4096 listing.sizes.pages is.limits.pages;
          cappages = counts_are kinds.CapPage 256 listing.sizes.cappages is.limits.cappages;
          gpts = counts_are kinds.Gpt 1024 listing.sizes.gpts is.limits.gpts;
          processes = counts_are kinds.Process 256 listing.sizes.processes is.limits.processes;
          endpoints = counts_are kinds.Endpoint 1024 listing.sizes.endpoints is.limits.endpoints;
        };
        gpts = mapped_each IsGpt (gpt_map (meaning o.items)) listing.sizes.gpts _ gpt_again;
        each = length-mapped (gpt_map (meaning o.items)) listing.sizes.gpts _ ∙ sym (length-listed listing.sizes.gpts _);
      };
      sized = record {
        some_hart = is.limits.some_hart;
        most_harts = is.limits.harts;
        pages = length-listed listing.sizes.pages _ ∙ sym (length-listed listing.sizes.pages _);
        cappages = length-mapped (map (meaning o.items)) listing.sizes.cappages _ ∙ sym (length-listed listing.sizes.cappages _);
        processes = length-mapped (process_map (meaning o.items)) listing.sizes.processes _ ∙ sym (length-listed listing.sizes.processes _);
        endpoints = length-mapped (endpoint_map (meaning o.items)) listing.sizes.endpoints _ ∙ sym (length-listed listing.sizes.endpoints _);
      };
    };
    pages = each IsPage listing.sizes.pages _ (λ n. length-listed 4096 _);
    cappages = mapped_each IsCapPage (map (meaning o.items)) listing.sizes.cappages _ (λ n. record { size = length-mapped (meaning o.items) 256 _; slots = mapped_each IsCapability (meaning o.items) 256 _ (λ i. (caps_again n i).0) });
    processes = mapped_each IsProcess (process_map (meaning o.items)) listing.sizes.processes _ process_again;
    bytes = each (All (λ byte. byte < 256)) listing.sizes.pages _ (λ n. each (λ byte. byte < 256) 4096 _ (byte_again n));
    pcs = mapped_each (λ (process : ProcessValue). process.pc < 2 ^ 32) (process_map (meaning o.items)) listing.sizes.processes _ (λ p. (pc_again p).1);
    registers = mapped_each (λ (process : ProcessValue). All (λ value. value < 2 ^ 32) process.regs) (process_map (meaning o.items)) listing.sizes.processes _ (λ p. each (λ value. value < 2 ^ 32) 32 _ (reg_again p));
    ids = mapped_each (λ (endpoint : Endpoint). endpoint.id < 2 ^ 32) (endpoint_map (meaning o.items)) listing.sizes.endpoints _ (λ n. (endpoint_again n).2);
    payloads = mapped_each (λ (endpoint : Endpoint). endpoint.payload < 2 ^ 32) (endpoint_map (meaning o.items)) listing.sizes.endpoints _ (λ n. (endpoint_again n).3);
    recipients = mapped_each (λ (endpoint : Endpoint). IsCapability endpoint.recipient) (endpoint_map (meaning o.items)) listing.sizes.endpoints _ (λ n. (endpoint_again n).0.0);
    receive = mapped_each (λ (endpoint : Endpoint). is_recipient endpoint.recipient.kind ≡ true) (endpoint_map (meaning o.items)) listing.sizes.endpoints _ (λ n. (endpoint_again n).1);
    stated = record {
      slots = mapped_each (λ (gpt : GptValue). All (IsStated (sizes_of o)) gpt.slots) (gpt_map (meaning o.items)) listing.sizes.gpts _ (λ g. mapped_each (IsStated (sizes_of o)) (meaning o.items) 16 _ (λ i. (slots_again g i).1));
      cappages = mapped_each (All (IsStated (sizes_of o))) (map (meaning o.items)) listing.sizes.cappages _ (λ n. mapped_each (IsStated (sizes_of o)) (meaning o.items) 256 _ (λ i. (caps_again n i).1));
      capregs = mapped_each (λ (process : ProcessValue). All (IsStated (sizes_of o)) process.capregs) (process_map (meaning o.items)) listing.sizes.processes _ (λ p. mapped_each (IsStated (sizes_of o)) (meaning o.items) 32 _ (λ i. (capregs_again p i).1));
      process_slots = mapped_each (λ (process : ProcessValue). All (IsStated (sizes_of o)) process.slots) (process_map (meaning o.items)) listing.sizes.processes _ (λ p. mapped_each (IsStated (sizes_of o)) (meaning o.items) 3 _ (λ i. (places_again p i).1));
      recipients = mapped_each (λ (endpoint : Endpoint). IsStated (sizes_of o) endpoint.recipient) (endpoint_map (meaning o.items)) listing.sizes.endpoints _ (λ n. (endpoint_again n).0.1);
    };
    running = mapped_each (λ (process : ProcessValue). is_some (runs_of process.state) ≡ true) (process_map (meaning o.items)) listing.sizes.processes _ (λ p. refl);
  }
