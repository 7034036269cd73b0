-- One object by its kind and number: what is stored of it, its count included, the store with another in its place, and
-- stores in which all objects but the named ones are stored as before.
use Rattle.std.specs.Prelude.{◌≡◌, ℕ, ◌⊎◌, List, [], ◌∷◌, length}
use Rattle.cap_format.specs.declared.kind.CapKind.{CapKind}
use Rattle.cap_format.specs.declared.kind.CapKind.TheVariants.{Page, CapPage, Gpt, Endpoint, Process}
use Rattle.cap_format.specs.Capability.{Capability}
use Rattle.gpt_objects.specs.Gpt.{GptValue}
use Rattle.process_objects.specs.Process.{ProcessValue}
use Rattle.endpoint_objects.specs.declared.endpoint.Endpoint.{Endpoint as EndpointValue}
use Rattle.object_store.specs.Store.{Store, count_of, gpt_at, page_at, cappage_at, process_at, endpoint_at, set_count, set_gpt, with_items, with_page, with_cappage, with_process, with_endpoint}

-- the name of an object: its kind and number
pub record ObjectName : Type 0 where
  pub kind : CapKind
  pub number : ℕ

-- a name by its parts
abbrev pub object_name : CapKind → ℕ → ObjectName
object_name kind number = record { kind = kind; number = number }

-- what is stored of one object: its count and its record. Of a kind that has no objects it is nothing.
pub data ObjectValue : Type 0 where
  OfPage : ℕ → List ℕ → ObjectValue
  OfCapPage : ℕ → List Capability → ObjectValue
  OfGpt : ℕ → GptValue → ObjectValue
  OfProcess : ℕ → ProcessValue → ObjectValue
  OfEndpoint : ℕ → EndpointValue → ObjectValue
  OfNone : ObjectValue

-- object `n` of a kind as it is stored; with count 0 and empty where it is not there
abbrev pub object_at : Store → CapKind → ℕ → ObjectValue
object_at s Page n = OfPage (count_of s.items Page n) (page_at s n)
object_at s CapPage n = OfCapPage (count_of s.items CapPage n) (cappage_at s n)
object_at s Gpt n = OfGpt (count_of s.items Gpt n) (gpt_at s.items n)
object_at s Process n = OfProcess (count_of s.items Process n) (process_at s n)
object_at s Endpoint n = OfEndpoint (count_of s.items Endpoint n) (endpoint_at s n)
object_at s _ n = OfNone

-- object `n` of a kind is stored alike in two stores
abbrev pub SameObject : CapKind → ℕ → Store → Store → Type 0
SameObject kind n s t = object_at s kind n ≡ object_at t kind n

-- the store with this in place of object `n` of its kind, count and record
abbrev pub with_object : Store → ℕ → ObjectValue → Store
with_object s n (OfPage count page) = with_page (with_items s (set_count s.items Page n count)) n page
with_object s n (OfCapPage count page) = with_cappage (with_items s (set_count s.items CapPage n count)) n page
with_object s n (OfGpt count gpt) = with_items s (set_gpt (set_count s.items Gpt n count) n gpt)
with_object s n (OfProcess count process) = with_process (with_items s (set_count s.items Process n count)) n process
with_object s n (OfEndpoint count endpoint) = with_endpoint (with_items s (set_count s.items Endpoint n count)) n endpoint
with_object s n OfNone = s

-- object `n` of a kind is one of those named
abbrev pub IsAmong : CapKind → ℕ → List ObjectName → Type 0
IsAmong kind n [] = ⊥
IsAmong kind n (name ∷ names) = ((kind ≡ name.kind) × (n ≡ name.number)) ⊎ IsAmong kind n names

-- each object is one of those named, or is stored alike in both stores; a dead capability with its count too
pub record Stays (names : List ObjectName) (s t : Store) : Type 0 where
  pub same : (kind : CapKind) (n : ℕ) → IsAmong kind n names ⊎ SameObject kind n s t

-- there are as many objects of each kind as counts
pub record IsEven (s : Store) : Type 0 where
  pub pages : length s.contents.pages ≡ length s.items.counts.pages
  pub cappages : length s.contents.cappages ≡ length s.items.counts.cappages
  pub gpts : length s.items.gpts ≡ length s.items.counts.gpts
  pub processes : length s.contents.processes ≡ length s.items.counts.processes
  pub endpoints : length s.contents.endpoints ≡ length s.items.counts.endpoints
