-- What leaves no capability ahead: every write of capabilities that are not ahead, and a destruction.
use Rattle.std.proofs.Common.{ℕ, List}
use Rattle.std.specs.List.{All}
use Rattle.cap_format.specs.Capability.{Capability}
use Rattle.gpt_objects.specs.Header.{HeaderValue}
use Rattle.process_objects.specs.Process.{ProcessValue}
use Rattle.endpoint_objects.specs.declared.endpoint.Endpoint.{Endpoint as EndpointValue}
use Rattle.object_store.specs.declared.sizes.Sizes.{Sizes}
use Rattle.object_store.specs.Store.{Store, set_slot, set_header, with_items, with_page, with_cappage, with_process, with_endpoint, empty_store}
use Rattle.object_store.specs.Ahead.{IsBehind, NoneAhead}
use Rattle.object_store.proofs.Live.{IsBehind-null}
use Rattle.object_store.proofs.Each.{EachCapability-empty_store, EachCapability-set_slot, EachCapability-set_header, EachCapability-with_page, EachCapability-with_cappage, EachCapability-with_process, EachCapability-with_endpoint}

-- new objects have Nulls alone, and Null is not ahead
pub NoneAhead-empty_store : (sizes : Sizes) → NoneAhead (empty_store sizes)
NoneAhead-empty_store sizes = EachCapability-empty_store (IsBehind (empty_store sizes).items) (IsBehind-null (empty_store sizes).items) sizes

-- after each of these writes no capability is ahead, where none was before
module _ (s : Store) (none : NoneAhead s) where
  -- a slot gets a capability that is not ahead
  pub NoneAhead-set_slot : (g i : ℕ) (c : Capability) → IsBehind s.items c → NoneAhead (with_items s (set_slot s.items g i c))
  NoneAhead-set_slot g i c behind = EachCapability-set_slot (IsBehind s.items) (IsBehind-null s.items) s g i c behind none

  -- a header has no capability
  pub NoneAhead-set_header : (g : ℕ) (h : HeaderValue) → NoneAhead (with_items s (set_header s.items g h))
  NoneAhead-set_header g h = EachCapability-set_header (IsBehind s.items) (IsBehind-null s.items) s g h none

  -- a page has no capability
  pub NoneAhead-with_page : (n : ℕ) (page : List ℕ) → NoneAhead (with_page s n page)
  NoneAhead-with_page n page = EachCapability-with_page (IsBehind s.items) (IsBehind-null s.items) s n page none

  -- a capability page gets slots that are not ahead
  pub NoneAhead-with_cappage : (n : ℕ) (page : List Capability) → All (IsBehind s.items) page → NoneAhead (with_cappage s n page)
  NoneAhead-with_cappage n page behind = EachCapability-with_cappage (IsBehind s.items) (IsBehind-null s.items) s n page behind none

  -- a process gets capability registers and slots that are not ahead
  pub NoneAhead-with_process : (n : ℕ) (process : ProcessValue) → All (IsBehind s.items) process.capregs → All (IsBehind s.items) process.slots → NoneAhead (with_process s n process)
  NoneAhead-with_process n process capregs slots = EachCapability-with_process (IsBehind s.items) (IsBehind-null s.items) s n process capregs slots none

  -- an endpoint gets a recipient that is not ahead
  pub NoneAhead-with_endpoint : (n : ℕ) (endpoint : EndpointValue) → IsBehind s.items endpoint.recipient → NoneAhead (with_endpoint s n endpoint)
  NoneAhead-with_endpoint n endpoint behind = EachCapability-with_endpoint (IsBehind s.items) (IsBehind-null s.items) s n endpoint behind none
