-- Facts of each capability that is stored: what keeps them, and what follows for a function of each.
use Rattle.std.proofs.Common.{◌≡◌, ◌==◌, ℕ, List, map, set, refl, ap, ◌∙◌}
use Rattle.std.specs.List.{All}
use Rattle.std.proofs.lemmas.Bool.{cond_both}
use Rattle.std.proofs.lemmas.List.{map-set}
use Rattle.std.proofs.lemmas.List.Elements.{All-set, All-map, All-replicate}
use Rattle.cap_format.specs.declared.kind.CapKind.{CapKind}
use Rattle.cap_format.specs.declared.kind.CapKind.TheVariants.{Page, CapPage, Gpt, Endpoint, Process}
use Rattle.cap_format.specs.Capability.{Capability, null}
use Rattle.gpt_objects.specs.Header.{HeaderValue}
use Rattle.gpt_objects.specs.Gpt.{GptValue, with_slot, with_header, empty_gpt, empty_slots}
use Rattle.page_store.specs.Page.{empty_page}
use Rattle.page_store.specs.CapPage.{cap_at, empty_cappage}
use Rattle.process_objects.specs.Process.{ProcessValue, capreg_of, capreg_set, slot_of as process_slot_of, empty_process, empty_capregs, empty_slots as empty_process_slots}
use Rattle.endpoint_objects.specs.declared.endpoint.Endpoint.{Endpoint as EndpointValue}
use Rattle.endpoint_objects.specs.Endpoint.{empty_endpoint}
use Rattle.object_store.specs.declared.sizes.Sizes.{Sizes}
use Rattle.object_store.specs.Store.{Items, Contents, Store, gpt_at, slot_at, cappage_at, process_at, endpoint_at, set_gpt, set_slot, set_header, with_items, with_page, with_cappage, with_process, with_endpoint, emptied_gpts, emptied_contents, emptied, empty_store}
use Rattle.object_store.specs.Meaning.{gpt_map, process_map, endpoint_map, contents_map, store_map}
use Rattle.object_store.specs.Ahead.{EachCapability}
use Rattle.object_store.proofs.Lists.{map-map, map-same, All-at}
use Rattle.object_store.proofs.Means.{gpt_map-empty, cappage_map-empty, process_map-empty, endpoint_map-empty}

-- ---- the fact goes on

-- a fact that follows from another holds where that one does
pub EachCapability-map : (P Q : Capability → Type 0) → ((c : Capability) → P c → Q c) → (s : Store) → EachCapability P s → EachCapability Q s
EachCapability-map P Q then s each = record {
  slots = λ g d there. λ i e within. then _ (each.slots g d there i e within);
  cappages = λ n d there. λ i e within. then _ (each.cappages n d there i e within);
  capregs = λ n d there. λ i e within. then _ (each.capregs n d there i e within);
  process_slots = λ n d there. λ i e within. then _ (each.process_slots n d there i e within);
  recipients = λ n d there. then _ (each.recipients n d there);
}

-- a fact of each capability that Null has too, so that empty objects have it
module _ (P : Capability → Type 0) (of_null : P null) where
  -- the slots of an empty GPT
  empty_slots-each : All P empty_slots
  unfolding empty_slots
  empty_slots-each = All-replicate P 16 null of_null

  -- the slots of an empty capability page
  pub empty_cappage-each : All P empty_cappage
  unfolding empty_cappage
  empty_cappage-each = All-replicate P 256 null of_null

  -- the capability registers of an empty process
  empty_capregs-each : All P empty_capregs
  unfolding empty_capregs
  empty_capregs-each = All-replicate P 32 null of_null

  -- the slots of an empty process
  empty_process_slots-each : All P empty_process_slots
  unfolding empty_process_slots
  empty_process_slots-each = All-replicate P 3 null of_null

  -- new objects
  pub EachCapability-empty_store : (sizes : Sizes) → EachCapability P (empty_store sizes)
  EachCapability-empty_store sizes = record {
    slots = All-replicate (λ (gpt : GptValue). All P gpt.slots) sizes.gpts empty_gpt empty_slots-each;
    cappages = All-replicate (All P) sizes.cappages empty_cappage empty_cappage-each;
    capregs = All-replicate (λ (process : ProcessValue). All P process.capregs) sizes.processes empty_process empty_capregs-each;
    process_slots = All-replicate (λ (process : ProcessValue). All P process.slots) sizes.processes empty_process empty_process_slots-each;
    recipients = All-replicate (λ (endpoint : EndpointValue). P endpoint.recipient) sizes.endpoints empty_endpoint of_null;
  }

  -- the slots of a GPT that is read, the empty one where there is none; so with what is read below
  pub gpt_at-each : (s : Store) → EachCapability P s → (g : ℕ) → All P (gpt_at s.items g).slots
  gpt_at-each s each g = All-at (λ (gpt : GptValue). All P gpt.slots) s.items.gpts empty_gpt empty_slots-each each.slots g

  -- one slot of a GPT
  pub slot_at-each : (s : Store) → EachCapability P s → (g i : ℕ) → P (slot_at s.items g i)
  slot_at-each s each g = All-at P (gpt_at s.items g).slots null of_null (gpt_at-each s each g)

  -- the slots of a capability page
  pub cappage_at-each : (s : Store) → EachCapability P s → (n : ℕ) → All P (cappage_at s n)
  cappage_at-each s each n = All-at (All P) s.contents.cappages empty_cappage empty_cappage-each each.cappages n

  -- one slot of a capability page
  pub cap_at-each : (s : Store) → EachCapability P s → (n i : ℕ) → P (cap_at (cappage_at s n) i)
  cap_at-each s each n = All-at P (cappage_at s n) null of_null (cappage_at-each s each n)

  -- the capability registers of a process
  pub capregs-each : (s : Store) → EachCapability P s → (n : ℕ) → All P (process_at s n).capregs
  capregs-each s each n = All-at (λ (process : ProcessValue). All P process.capregs) s.contents.processes empty_process empty_capregs-each each.capregs n

  -- one capability register of a process
  pub capreg_of-each : (s : Store) → EachCapability P s → (n i : ℕ) → P (capreg_of (process_at s n) i)
  capreg_of-each s each n = All-at P (process_at s n).capregs null of_null (capregs-each s each n)

  -- capability registers after a write to one
  pub capreg_set-each : (capregs : List Capability) (i : ℕ) (c : Capability) → P c → All P capregs → All P (capreg_set capregs i c)
  capreg_set-each capregs i c new each = cond_both (i == 0) capregs (set capregs i c) (All P) (λ _. each) (λ _. All-set P capregs i c new each)

  -- the slots of a process
  pub process_slots-each : (s : Store) → EachCapability P s → (n : ℕ) → All P (process_at s n).slots
  process_slots-each s each n = All-at (λ (process : ProcessValue). All P process.slots) s.contents.processes empty_process empty_process_slots-each each.process_slots n

  -- one slot of a process
  pub process_slot-each : (s : Store) → EachCapability P s → (n i : ℕ) → P (process_slot_of (process_at s n) i)
  process_slot-each s each n = All-at P (process_at s n).slots null of_null (process_slots-each s each n)

  -- the recipient of an endpoint
  pub recipient-each : (s : Store) → EachCapability P s → (n : ℕ) → P (endpoint_at s n).recipient
  recipient-each s each n = All-at (λ (endpoint : EndpointValue). P endpoint.recipient) s.contents.endpoints empty_endpoint of_null each.recipients n

  -- another GPT in place of one
  pub EachCapability-set_gpt : (s : Store) (g : ℕ) (gpt : GptValue) → All P gpt.slots → EachCapability P s → EachCapability P (with_items s (set_gpt s.items g gpt))
  EachCapability-set_gpt s g gpt new each = record {
    slots = All-set (λ (x : GptValue). All P x.slots) s.items.gpts g gpt new each.slots;
    cappages = each.cappages;
    capregs = each.capregs;
    process_slots = each.process_slots;
    recipients = each.recipients;
  }

  -- another slot of a GPT
  pub EachCapability-set_slot : (s : Store) (g i : ℕ) (c : Capability) → P c → EachCapability P s → EachCapability P (with_items s (set_slot s.items g i c))
  EachCapability-set_slot s g i c new each =
      EachCapability-set_gpt s g (with_slot (gpt_at s.items g) i c) (All-set P (gpt_at s.items g).slots i c new (gpt_at-each s each g)) each

  -- another header of a GPT, which has no capability
  pub EachCapability-set_header : (s : Store) (g : ℕ) (h : HeaderValue) → EachCapability P s → EachCapability P (with_items s (set_header s.items g h))
  EachCapability-set_header s g h each = EachCapability-set_gpt s g (with_header (gpt_at s.items g) h) (gpt_at-each s each g) each

  -- other bytes in a page, which has no capability
  pub EachCapability-with_page : (s : Store) (n : ℕ) (page : List ℕ) → EachCapability P s → EachCapability P (with_page s n page)
  EachCapability-with_page s n page each = record {
    slots = each.slots;
    cappages = each.cappages;
    capregs = each.capregs;
    process_slots = each.process_slots;
    recipients = each.recipients;
  }

  -- other slots in a capability page
  pub EachCapability-with_cappage : (s : Store) (n : ℕ) (page : List Capability) → All P page → EachCapability P s → EachCapability P (with_cappage s n page)
  EachCapability-with_cappage s n page new each = record {
    slots = each.slots;
    cappages = All-set (All P) s.contents.cappages n page new each.cappages;
    capregs = each.capregs;
    process_slots = each.process_slots;
    recipients = each.recipients;
  }

  -- another process in place of one
  pub EachCapability-with_process : (s : Store) (n : ℕ) (process : ProcessValue) → All P process.capregs → All P process.slots → EachCapability P s → EachCapability P (with_process s n process)
  EachCapability-with_process s n process capregs slots each = record {
    slots = each.slots;
    cappages = each.cappages;
    capregs = All-set (λ (x : ProcessValue). All P x.capregs) s.contents.processes n process capregs each.capregs;
    process_slots = All-set (λ (x : ProcessValue). All P x.slots) s.contents.processes n process slots each.process_slots;
    recipients = each.recipients;
  }

  -- another endpoint in place of one
  pub EachCapability-with_endpoint : (s : Store) (n : ℕ) (endpoint : EndpointValue) → P endpoint.recipient → EachCapability P s → EachCapability P (with_endpoint s n endpoint)
  EachCapability-with_endpoint s n endpoint new each = record {
    slots = each.slots;
    cappages = each.cappages;
    capregs = each.capregs;
    process_slots = each.process_slots;
    recipients = All-set (λ (x : EndpointValue). P x.recipient) s.contents.endpoints n endpoint new each.recipients;
  }

  -- the GPTs when one object becomes empty
  emptied_gpts-each : (kind : CapKind) (n : ℕ) (gpts : List GptValue) → All (λ gpt. All P gpt.slots) gpts → All (λ gpt. All P gpt.slots) (emptied_gpts kind n gpts)
  emptied_gpts-each Gpt n gpts each = All-set (λ (gpt : GptValue). All P gpt.slots) gpts n empty_gpt empty_slots-each each
  emptied_gpts-each kind n gpts each = each

  -- the contents when one object becomes empty
  emptied_contents-each : (harts : ℕ) (items : Items) (kind : CapKind) (n : ℕ) (c : Contents) → EachCapability P (record { harts = harts; items = items; contents = c }) → EachCapability P (record { harts = harts; items = items; contents = emptied_contents kind n c })
  emptied_contents-each harts items Page n c each = EachCapability-with_page (record { harts = harts; items = items; contents = c }) n empty_page each
  emptied_contents-each harts items CapPage n c each = EachCapability-with_cappage (record { harts = harts; items = items; contents = c }) n empty_cappage empty_cappage-each each
  emptied_contents-each harts items Process n c each = EachCapability-with_process (record { harts = harts; items = items; contents = c }) n empty_process empty_capregs-each empty_process_slots-each each
  emptied_contents-each harts items Endpoint n c each = EachCapability-with_endpoint (record { harts = harts; items = items; contents = c }) n empty_endpoint of_null each
  emptied_contents-each harts items kind n c each = each

  -- all that is stored after a destruction
  pub EachCapability-emptied : (kind : CapKind) (n : ℕ) (s : Store) → EachCapability P s → EachCapability P (emptied kind n s)
  EachCapability-emptied kind n s each =
      let contents = emptied_contents-each s.harts s.items kind n s.contents each in
      record {
        slots = emptied_gpts-each kind n s.items.gpts each.slots;
        cappages = contents.cappages;
        capregs = contents.capregs;
        process_slots = contents.process_slots;
        recipients = contents.recipients;
      }

-- ---- a function of each capability

-- what holds of what a function makes of each capability holds in the store that it makes
pub EachCapability-store_map : (P : Capability → Type 0) (f : Capability → Capability) (s : Store) → EachCapability (λ c. P (f c)) s → EachCapability P (store_map f s)
EachCapability-store_map P f s each = record {
  slots = All-map (λ (gpt : GptValue). All P gpt.slots) (gpt_map f) s.items.gpts (λ k d there. All-map P f _ (each.slots k d there));
  cappages = All-map (All P) (map f) s.contents.cappages (λ k d there. All-map P f _ (each.cappages k d there));
  capregs = All-map (λ (process : ProcessValue). All P process.capregs) (process_map f) s.contents.processes (λ k d there. All-map P f _ (each.capregs k d there));
  process_slots = All-map (λ (process : ProcessValue). All P process.slots) (process_map f) s.contents.processes (λ k d there. All-map P f _ (each.process_slots k d there));
  recipients = All-map (λ (endpoint : EndpointValue). P endpoint.recipient) (endpoint_map f) s.contents.endpoints each.recipients;
}

-- a fact of all capabilities holds of those that are stored
pub EachCapability-all : (P : Capability → Type 0) → ((c : Capability) → P c) → (s : Store) → EachCapability P s
EachCapability-all P all s = record {
  slots = λ k d there. λ i e within. all _;
  cappages = λ k d there. λ i e within. all _;
  capregs = λ k d there. λ i e within. all _;
  process_slots = λ k d there. λ i e within. all _;
  recipients = λ k d there. all _;
}

-- functions that agree on each slot make one GPT
gpt_map-same : (f g : Capability → Capability) (gpt : GptValue) → All (λ c. f c ≡ g c) gpt.slots → gpt_map f gpt ≡ gpt_map g gpt
gpt_map-same f g gpt all = rw (map-same f g gpt.slots all) refl

-- functions that agree on each capability register and slot make one process
process_map-same : (f g : Capability → Capability) (p : ProcessValue) → All (λ c. f c ≡ g c) p.capregs → All (λ c. f c ≡ g c) p.slots → process_map f p ≡ process_map g p
process_map-same f g p capregs slots = rw (map-same f g p.capregs capregs, map-same f g p.slots slots) refl

-- functions that agree on each capability make one store
pub store_map-same : (f g : Capability → Capability) (s : Store) → EachCapability (λ c. f c ≡ g c) s → store_map f s ≡ store_map g s
store_map-same f g s each =
    rw (
      map-same (gpt_map f) (gpt_map g) s.items.gpts (λ k d there. gpt_map-same f g _ (each.slots k d there)),
      map-same (map f) (map g) s.contents.cappages (λ k d there. map-same f g _ (each.cappages k d there)),
      map-same (process_map f) (process_map g) s.contents.processes (λ k d there. process_map-same f g _ (each.capregs k d there) (each.process_slots k d there)),
      map-same (endpoint_map f) (endpoint_map g) s.contents.endpoints (λ k d there. endpoint_map-same _ (each.recipients k d there)),
    )
    refl
  where
    endpoint_map-same : (endpoint : EndpointValue) → f endpoint.recipient ≡ g endpoint.recipient → endpoint_map f endpoint ≡ endpoint_map g endpoint
    endpoint_map-same endpoint e = rw e refl

-- one function after the other makes the store that their composition makes
pub store_map-store_map : (f g : Capability → Capability) (s : Store) → store_map f (store_map g s) ≡ store_map (λ c. f (g c)) s
store_map-store_map f g s =
    rw (
      map-map (gpt_map f) (gpt_map g) s.items.gpts,
      map-map (map f) (map g) s.contents.cappages,
      map-map (process_map f) (process_map g) s.contents.processes,
      map-map (endpoint_map f) (endpoint_map g) s.contents.endpoints,
    )
    (rw (
      map-same (λ gpt. gpt_map f (gpt_map g gpt)) (gpt_map (λ c. f (g c))) s.items.gpts (λ k d there. gpt_is _),
      map-same (λ page. map f (map g page)) (map (λ c. f (g c))) s.contents.cappages (λ k d there. map-map f g _),
      map-same (λ process. process_map f (process_map g process)) (process_map (λ c. f (g c))) s.contents.processes (λ k d there. process_is _),
    )
    refl)
  where
    gpt_is : (gpt : GptValue) → gpt_map f (gpt_map g gpt) ≡ gpt_map (λ c. f (g c)) gpt
    gpt_is gpt = rw (map-map f g gpt.slots) refl

    process_is : (process : ProcessValue) → process_map f (process_map g process) ≡ process_map (λ c. f (g c)) process
    process_is process = rw (map-map f g process.capregs, map-map f g process.slots) refl

-- a function that leaves Null commutes with making an object empty
module _ (f : Capability → Capability) (null-is : f null ≡ null) where
  -- of the GPTs
  gpts-emptied : (kind : CapKind) (n : ℕ) (gpts : List GptValue) → map (gpt_map f) (emptied_gpts kind n gpts) ≡ emptied_gpts kind n (map (gpt_map f) gpts)
  gpts-emptied Gpt n gpts = map-set (gpt_map f) gpts n empty_gpt ∙ ap (set (map (gpt_map f) gpts) n) (gpt_map-empty f null-is)
  gpts-emptied kind n gpts = refl

  -- of the contents
  contents-emptied : (kind : CapKind) (n : ℕ) (c : Contents) → contents_map f (emptied_contents kind n c) ≡ emptied_contents kind n (contents_map f c)
  contents-emptied CapPage n c = rw (map-set (map f) c.cappages n empty_cappage, cappage_map-empty f null-is) refl
  contents-emptied Process n c = rw (map-set (process_map f) c.processes n empty_process, process_map-empty f null-is) refl
  contents-emptied Endpoint n c = rw (map-set (endpoint_map f) c.endpoints n empty_endpoint, endpoint_map-empty f null-is) refl
  contents-emptied kind n c = refl

  -- of the whole store
  pub store_map-emptied : (kind : CapKind) (n : ℕ) (s : Store) → store_map f (emptied kind n s) ≡ emptied kind n (store_map f s)
  store_map-emptied kind n s = rw (gpts-emptied kind n s.items.gpts, contents-emptied kind n s.contents) refl
