-- The laws of the store, as statements.
use Rattle.std.specs.Prelude.{◌≡◌, ℕ, ◌<◌, List, map}
use Rattle.std.specs.List.{All}
use Rattle.cap_format.specs.declared.kind.CapKind.{CapKind}
use Rattle.cap_format.specs.declared.kind.CapKind.TheVariants.{Gpt}
use Rattle.cap_format.specs.declared.item.Item.{Item}
use Rattle.cap_format.specs.declared.item.Item.TheVariants.{Header, Slot}
use Rattle.cap_format.specs.Capability.{Capability}
use Rattle.gpt_objects.specs.Header.{HeaderValue}
use Rattle.process_objects.specs.Process.{ProcessValue}
use Rattle.endpoint_objects.specs.declared.endpoint.Endpoint.{Endpoint as EndpointValue}
use Rattle.object_store.specs.declared.sizes.Sizes.{Sizes}
use Rattle.object_store.specs.Store.{Items, Store, size_of, count_of, header_at, slot_at, page_at, cappage_at, process_at, endpoint_at, set_count, set_slot, set_header, with_items, with_page, with_cappage, with_process, with_endpoint, emptied_items, emptied, empty_store}
use Rattle.object_store.specs.Meaning.{live, meaning, process_map, endpoint_map, map_of, state_map}
use Rattle.object_store.specs.Differ.{Names, DifferIn, DifferInNone}
use Rattle.object_store.specs.Ahead.{IsBehind, EachCapability, NoneAhead}
use Rattle.object_store.specs.Destruction.{destruction}

-- what is read of the model's map is the meaning of what is read of the store
pub record ReadsMean : Type 0 where
  pub count : (o : Items) (kind : CapKind) (n : ℕ) → count_of (map_of o) kind n ≡ count_of o kind n
  pub header : (o : Items) (g : ℕ) → header_at (map_of o) g ≡ header_at o g
  pub slot : (o : Items) (g i : ℕ) → slot_at (map_of o) g i ≡ meaning o (slot_at o g i)
  pub page : (s : Store) (n : ℕ) → page_at (state_map s) n ≡ page_at s n
  pub cappage : (s : Store) (n : ℕ) → cappage_at (state_map s) n ≡ map (meaning s.items) (cappage_at s n)
  pub process : (s : Store) (n : ℕ) → process_at (state_map s) n ≡ process_map (meaning s.items) (process_at s n)
  pub endpoint : (s : Store) (n : ℕ) → endpoint_at (state_map s) n ≡ endpoint_map (meaning s.items) (endpoint_at s n)

-- a write to the store means the same write to the model's map
pub record WritesMean : Type 0 where
  pub slot : (s : Store) (g i : ℕ) (c : Capability) → state_map (with_items s (set_slot s.items g i c)) ≡ with_items (state_map s) (set_slot (map_of s.items) g i (meaning s.items c))
  pub header : (s : Store) (g : ℕ) (h : HeaderValue) → state_map (with_items s (set_header s.items g h)) ≡ with_items (state_map s) (set_header (map_of s.items) g h)
  pub page : (s : Store) (n : ℕ) (page : List ℕ) → state_map (with_page s n page) ≡ with_page (state_map s) n page
  pub cappage : (s : Store) (n : ℕ) (page : List Capability) → state_map (with_cappage s n page) ≡ with_cappage (state_map s) n (map (meaning s.items) page)
  pub process : (s : Store) (n : ℕ) (process : ProcessValue) → state_map (with_process s n process) ≡ with_process (state_map s) n (process_map (meaning s.items) process)
  pub endpoint : (s : Store) (n : ℕ) (endpoint : EndpointValue) → state_map (with_endpoint s n endpoint) ≡ with_endpoint (state_map s) n (endpoint_map (meaning s.items) endpoint)

-- What is stored after a destruction means the destruction of what was meant before, where no capability is ahead.
-- After a destruction no capability in the whole map names the object.
pub record DestructionMeans : Type 0 where
  pub equal : (kind : CapKind) (n : ℕ) (s : Store) → n < size_of s.items kind → NoneAhead s → state_map (emptied kind n s) ≡ destruction kind n (state_map s)
  pub forgotten : (kind : CapKind) (n : ℕ) (s : Store) → EachCapability (λ c. Names kind n c → ⊥) (destruction kind n s)

-- One-item difference has no direction. Each write of an item makes it in that item, and other writes in none.
pub record DifferenceLaws : Type 0 where
  pub symmetric : (item : Item) (o p : Items) → DifferIn item o p → DifferIn item p o
  pub slot : (o : Items) (g i : ℕ) (c : Capability) → DifferIn (Slot g i) (map_of o) (map_of (set_slot o g i c))
  pub header : (o : Items) (g : ℕ) (h : HeaderValue) → DifferIn (Header Gpt g) (map_of o) (map_of (set_header o g h))
  pub count : (o : Items) (kind : CapKind) (n count : ℕ) → DifferIn (Header kind n) (map_of o) (map_of (set_count o kind n count))
  pub destruction : (o : Items) (kind : CapKind) (n : ℕ) → DifferIn (Header kind n) (map_of o) (map_of (emptied_items kind n o))
  pub page : (s : Store) (n : ℕ) (page : List ℕ) → DifferInNone (map_of s.items) (map_of (with_page s n page).items)
  pub cappage : (s : Store) (n : ℕ) (page : List Capability) → DifferInNone (map_of s.items) (map_of (with_cappage s n page).items)
  pub process : (s : Store) (n : ℕ) (process : ProcessValue) → DifferInNone (map_of s.items) (map_of (with_process s n process).items)
  pub endpoint : (s : Store) (n : ℕ) (endpoint : EndpointValue) → DifferInNone (map_of s.items) (map_of (with_endpoint s n endpoint).items)

-- No write but that of a count alone puts a capability ahead: a new store has none ahead, and it stays so.
pub record NoneComesAhead : Type 0 where
  pub live : (o : Items) (c : Capability) → IsBehind o (live o c)
  pub new : (sizes : Sizes) → NoneAhead (empty_store sizes)
  pub slot : (s : Store) → NoneAhead s → (g i : ℕ) (c : Capability) → IsBehind s.items c → NoneAhead (with_items s (set_slot s.items g i c))
  pub header : (s : Store) → NoneAhead s → (g : ℕ) (h : HeaderValue) → NoneAhead (with_items s (set_header s.items g h))
  pub page : (s : Store) → NoneAhead s → (n : ℕ) (page : List ℕ) → NoneAhead (with_page s n page)
  pub cappage : (s : Store) → NoneAhead s → (n : ℕ) (page : List Capability) → All (IsBehind s.items) page → NoneAhead (with_cappage s n page)
  pub process : (s : Store) → NoneAhead s → (n : ℕ) (process : ProcessValue) → All (IsBehind s.items) process.capregs → All (IsBehind s.items) process.slots → NoneAhead (with_process s n process)
  pub endpoint : (s : Store) → NoneAhead s → (n : ℕ) (endpoint : EndpointValue) → IsBehind s.items endpoint.recipient → NoneAhead (with_endpoint s n endpoint)
  pub risen : (kind : CapKind) (n : ℕ) (o : Items) (c : Capability) → IsBehind o c → IsBehind (emptied_items kind n o) c
  pub destroyed : (kind : CapKind) (n : ℕ) (s : Store) → NoneAhead s → NoneAhead (emptied kind n s)
