-- Laws of the meaning: what reads and writes of stored objects mean.
use Rattle.std.proofs.Common.{◌≡◌, ℕ, List, get_or, set, map, replicate, Bool, true, false, if◌then◌else◌, ◌==◌, refl, sym, ap, ◌∙◌}
use Rattle.std.proofs.Math.ListN.{get_or-map}
use Rattle.std.proofs.lemmas.List.{map-set}
use Rattle.cap_format.specs.Capability.{Capability, null}
use Rattle.gpt_objects.specs.Header.{HeaderValue}
use Rattle.gpt_objects.specs.Gpt.{GptValue, slot_of, with_slot, with_header, empty_gpt, empty_slots}
use Rattle.page_store.specs.CapPage.{cap_at, empty_cappage}
use Rattle.process_objects.specs.Process.{ProcessValue, capreg_of, slot_of as process_slot_of, with_capreg, with_slot as with_process_slot, empty_process, empty_capregs, empty_slots as empty_process_slots}
use Rattle.endpoint_objects.specs.declared.endpoint.Endpoint.{Endpoint as EndpointValue}
use Rattle.endpoint_objects.specs.Endpoint.{empty_endpoint}
use Rattle.object_store.specs.Store.{Items, Store, gpt_at, header_at, slot_at, cappage_at, process_at, endpoint_at, set_gpt, set_slot, set_header, with_items, with_cappage, with_process, with_endpoint}
use Rattle.object_store.specs.Meaning.{meaning, gpt_map, process_map, endpoint_map, items_map, store_map, map_of, state_map}
use Rattle.object_store.proofs.Lists.{map-replicate}

-- ---- a function of each capability that leaves Null, as the meaning is one

module _ (f : Capability → Capability) (null-is : f null ≡ null) where
  -- the slots of empty objects stay Nulls
  map-empty_slots : map f empty_slots ≡ empty_slots
  unfolding empty_slots
  map-empty_slots = map-replicate f 16 null ∙ ap (replicate 16) null-is

  map-empty_capregs : map f empty_capregs ≡ empty_capregs
  unfolding empty_capregs
  map-empty_capregs = map-replicate f 32 null ∙ ap (replicate 32) null-is

  map-empty_process_slots : map f empty_process_slots ≡ empty_process_slots
  unfolding empty_process_slots
  map-empty_process_slots = map-replicate f 3 null ∙ ap (replicate 3) null-is

  -- the function leaves an empty GPT as it is
  pub gpt_map-empty : gpt_map f empty_gpt ≡ empty_gpt
  gpt_map-empty = rw map-empty_slots refl

  -- it leaves an empty capability page
  pub cappage_map-empty : map f empty_cappage ≡ empty_cappage
  unfolding empty_cappage
  cappage_map-empty = map-replicate f 256 null ∙ ap (replicate 256) null-is

  -- it leaves an empty process
  pub process_map-empty : process_map f empty_process ≡ empty_process
  process_map-empty = rw (map-empty_capregs, map-empty_process_slots) refl

  -- it leaves an empty endpoint
  pub endpoint_map-empty : endpoint_map f empty_endpoint ≡ empty_endpoint
  endpoint_map-empty = rw null-is refl

  -- a GPT that is read afterwards is what the function makes of the one read before
  pub gpt_at-items_map : (o : Items) (g : ℕ) → gpt_at (items_map f o) g ≡ gpt_map f (gpt_at o g)
  gpt_at-items_map o g = ap (get_or (map (gpt_map f) o.gpts) g) (sym gpt_map-empty) ∙ get_or-map (gpt_map f) o.gpts g empty_gpt

  -- its header is the one read before
  pub header_at-items_map : (o : Items) (g : ℕ) → header_at (items_map f o) g ≡ header_at o g
  header_at-items_map o g = ap (λ (gpt : GptValue). gpt.header) (gpt_at-items_map o g)

  -- a slot of a GPT is what the function makes of the slot before
  pub slot_of-gpt_map : (gpt : GptValue) (i : ℕ) → slot_of (gpt_map f gpt) i ≡ f (slot_of gpt i)
  slot_of-gpt_map gpt i = ap (get_or (map f gpt.slots) i) (sym null-is) ∙ get_or-map f gpt.slots i null

  -- so is a slot of a GPT by its number
  pub slot_at-items_map : (o : Items) (g i : ℕ) → slot_at (items_map f o) g i ≡ f (slot_at o g i)
  slot_at-items_map o g i = ap (λ gpt. slot_of gpt i) (gpt_at-items_map o g) ∙ slot_of-gpt_map (gpt_at o g) i

  -- a capability page is what the function makes of each slot of the one before
  pub cappage_at-store_map : (s : Store) (n : ℕ) → cappage_at (store_map f s) n ≡ map f (cappage_at s n)
  cappage_at-store_map s n = ap (get_or (map (map f) s.contents.cappages) n) (sym cappage_map-empty) ∙ get_or-map (map f) s.contents.cappages n empty_cappage

  -- a process is what the function makes of the one before
  pub process_at-store_map : (s : Store) (n : ℕ) → process_at (store_map f s) n ≡ process_map f (process_at s n)
  process_at-store_map s n = ap (get_or (map (process_map f) s.contents.processes) n) (sym process_map-empty) ∙ get_or-map (process_map f) s.contents.processes n empty_process

  -- an endpoint is what the function makes of the one before
  pub endpoint_at-store_map : (s : Store) (n : ℕ) → endpoint_at (store_map f s) n ≡ endpoint_map f (endpoint_at s n)
  endpoint_at-store_map s n = ap (get_or (map (endpoint_map f) s.contents.endpoints) n) (sym endpoint_map-empty) ∙ get_or-map (endpoint_map f) s.contents.endpoints n empty_endpoint

  -- a slot of a capability page is what the function makes of the slot before
  pub cap_at-map : (page : List Capability) (i : ℕ) → cap_at (map f page) i ≡ f (cap_at page i)
  cap_at-map page i = ap (get_or (map f page) i) (sym null-is) ∙ get_or-map f page i null

  -- so is a capability register of a process
  pub capreg_of-process_map : (process : ProcessValue) (i : ℕ) → capreg_of (process_map f process) i ≡ f (capreg_of process i)
  capreg_of-process_map process i = cap_at-map process.capregs i

  -- so is a slot of a process
  pub process_slot-process_map : (process : ProcessValue) (i : ℕ) → process_slot_of (process_map f process) i ≡ f (process_slot_of process i)
  process_slot-process_map process i = cap_at-map process.slots i

  -- a slot written and then the function is the function and then a write of what it makes
  pub gpt_map-with_slot : (gpt : GptValue) (i : ℕ) (c : Capability) → gpt_map f (with_slot gpt i c) ≡ with_slot (gpt_map f gpt) i (f c)
  gpt_map-with_slot gpt i c = ap (λ slots. let p : GptValue = record { header = gpt.header; slots = slots } in p) (map-set f gpt.slots i c)

  -- so is a GPT written to the items
  pub items_map-set_gpt : (o : Items) (g : ℕ) (gpt : GptValue) → items_map f (set_gpt o g gpt) ≡ set_gpt (items_map f o) g (gpt_map f gpt)
  items_map-set_gpt o g gpt = ap (λ gpts. let p : Items = record { counts = o.counts; gpts = gpts } in p) (map-set (gpt_map f) o.gpts g gpt)

  -- so is a slot written to the items
  pub items_map-set_slot : (o : Items) (g i : ℕ) (c : Capability) → items_map f (set_slot o g i c) ≡ set_slot (items_map f o) g i (f c)
  items_map-set_slot o g i c =
      items_map-set_gpt o g (with_slot (gpt_at o g) i c)
      ∙ ap (set_gpt (items_map f o) g) (gpt_map-with_slot (gpt_at o g) i c ∙ ap (λ gpt. with_slot gpt i (f c)) (sym (gpt_at-items_map o g)))

  -- a header written stays as it is
  pub items_map-set_header : (o : Items) (g : ℕ) (h : HeaderValue) → items_map f (set_header o g h) ≡ set_header (items_map f o) g h
  items_map-set_header o g h =
      items_map-set_gpt o g (with_header (gpt_at o g) h)
      ∙ ap (λ gpt. set_gpt (items_map f o) g (with_header gpt h)) (sym (gpt_at-items_map o g))

  -- a capability register written to a process, and then the function
  pub process_map-with_capreg : (process : ProcessValue) (i : ℕ) (c : Capability) → process_map f (with_capreg process i c) ≡ with_capreg (process_map f process) i (f c)
  process_map-with_capreg process i c = ap (λ capregs. let p : ProcessValue = record { pc = process.pc; regs = process.regs; capregs = capregs; slots = map f process.slots; state = process.state } in p) (by (i == 0))
    where
      by : (b : Bool) → map f (if b then process.capregs else set process.capregs i c) ≡ (if b then map f process.capregs else set (map f process.capregs) i (f c))
      by true = refl
      by false = map-set f process.capregs i c

  -- a slot written to a process, and then the function
  pub process_map-with_slot : (process : ProcessValue) (i : ℕ) (c : Capability) → process_map f (with_process_slot process i c) ≡ with_process_slot (process_map f process) i (f c)
  process_map-with_slot process i c = ap (λ slots. let p : ProcessValue = record { pc = process.pc; regs = process.regs; capregs = map f process.capregs; slots = slots; state = process.state } in p) (map-set f process.slots i c)

  -- a capability page written to the store, and then the function
  pub store_map-with_cappage : (s : Store) (n : ℕ) (page : List Capability) → store_map f (with_cappage s n page) ≡ with_cappage (store_map f s) n (map f page)
  store_map-with_cappage s n page = rw (map-set (map f) s.contents.cappages n page) refl

  -- a process written to the store, and then the function
  pub store_map-with_process : (s : Store) (n : ℕ) (process : ProcessValue) → store_map f (with_process s n process) ≡ with_process (store_map f s) n (process_map f process)
  store_map-with_process s n process = rw (map-set (process_map f) s.contents.processes n process) refl

  -- an endpoint written to the store, and then the function
  pub store_map-with_endpoint : (s : Store) (n : ℕ) (endpoint : EndpointValue) → store_map f (with_endpoint s n endpoint) ≡ with_endpoint (store_map f s) n (endpoint_map f endpoint)
  store_map-with_endpoint s n endpoint = rw (map-set (endpoint_map f) s.contents.endpoints n endpoint) refl

-- ---- the meaning

-- headers have no capability, so the map has them as they are
pub header_at-map_of : (o : Items) (g : ℕ) → header_at (map_of o) g ≡ header_at o g
header_at-map_of o = header_at-items_map (meaning o) refl o

-- a slot of the map is the meaning of the slot
pub slot_at-map_of : (o : Items) (g i : ℕ) → slot_at (map_of o) g i ≡ meaning o (slot_at o g i)
slot_at-map_of o = slot_at-items_map (meaning o) refl o

-- a capability page of the map has the meaning of each slot
pub cappage_at-state_map : (s : Store) (n : ℕ) → cappage_at (state_map s) n ≡ map (meaning s.items) (cappage_at s n)
cappage_at-state_map s = cappage_at-store_map (meaning s.items) refl s

-- a process of the map has the meanings of its capability registers and slots
pub process_at-state_map : (s : Store) (n : ℕ) → process_at (state_map s) n ≡ process_map (meaning s.items) (process_at s n)
process_at-state_map s = process_at-store_map (meaning s.items) refl s

-- an endpoint of the map has the meaning of its recipient
pub endpoint_at-state_map : (s : Store) (n : ℕ) → endpoint_at (state_map s) n ≡ endpoint_map (meaning s.items) (endpoint_at s n)
endpoint_at-state_map s = endpoint_at-store_map (meaning s.items) refl s

-- a slot that is written in the items is, as it means, written in the map
pub map_of-set_slot : (o : Items) (g i : ℕ) (c : Capability) → map_of (set_slot o g i c) ≡ set_slot (map_of o) g i (meaning o c)
map_of-set_slot o = items_map-set_slot (meaning o) refl o

-- a header that is written in the items is written in the map
pub map_of-set_header : (o : Items) (g : ℕ) (h : HeaderValue) → map_of (set_header o g h) ≡ set_header (map_of o) g h
map_of-set_header o = items_map-set_header (meaning o) refl o

-- a slot that is written changes the map of the whole store in that slot alone
pub state_map-set_slot : (s : Store) (g i : ℕ) (c : Capability) → state_map (with_items s (set_slot s.items g i c)) ≡ with_items (state_map s) (set_slot (map_of s.items) g i (meaning s.items c))
state_map-set_slot s g i c = ap (with_items (state_map s)) (map_of-set_slot s.items g i c)

-- a header that is written changes the map of the whole store in that header alone
pub state_map-set_header : (s : Store) (g : ℕ) (h : HeaderValue) → state_map (with_items s (set_header s.items g h)) ≡ with_items (state_map s) (set_header (map_of s.items) g h)
state_map-set_header s g h = ap (with_items (state_map s)) (map_of-set_header s.items g h)

-- a capability page that is written is, slot by slot as it means, written in the map
pub state_map-with_cappage : (s : Store) (n : ℕ) (page : List Capability) → state_map (with_cappage s n page) ≡ with_cappage (state_map s) n (map (meaning s.items) page)
state_map-with_cappage s = store_map-with_cappage (meaning s.items) refl s

-- a process that is written is written in the map with the meanings of its capabilities
pub state_map-with_process : (s : Store) (n : ℕ) (process : ProcessValue) → state_map (with_process s n process) ≡ with_process (state_map s) n (process_map (meaning s.items) process)
state_map-with_process s = store_map-with_process (meaning s.items) refl s

-- an endpoint that is written is written in the map with the meaning of its recipient
pub state_map-with_endpoint : (s : Store) (n : ℕ) (endpoint : EndpointValue) → state_map (with_endpoint s n endpoint) ≡ with_endpoint (state_map s) n (endpoint_map (meaning s.items) endpoint)
state_map-with_endpoint s = store_map-with_endpoint (meaning s.items) refl s
