-- The meaning of a capability and of all objects: the one bridge from counts to the model.
use Rattle.std.specs.Prelude.{ℕ, List, length, map, Bool, true, if◌then◌else◌, ◌&&◌, nat_lt, ◌==◌, slice_index}
use Rattle.cap_format.specs.Kind.{is_counted, object_kind}
use Rattle.cap_format.specs.Capability.{Capability, null, bare}
use Rattle.gpt_objects.specs.Gpt.{GptValue}
use Rattle.process_objects.specs.Process.{ProcessValue}
use Rattle.endpoint_objects.specs.declared.endpoint.Endpoint.{Endpoint as EndpointValue}
use Rattle.object_store.specs.Store.{Items, Contents, Store, counts_of}

-- whether there is an object `n` among these, and its count is this one
abbrev pub is_current : List ℕ → ℕ → ℕ → Bool
is_current counts n count = nat_lt n (length counts) && (slice_index counts n == count)

-- whether a capability is live or names no object
abbrev pub is_live : Items → Capability → Bool
is_live o c =
    if is_counted c.kind then is_current (counts_of o.counts (object_kind c.kind)) c.object c.count
    else true

-- the capability itself where it is live or names no object, and Null otherwise (Coyotos)
abbrev pub live : Items → Capability → Capability
live o c = if is_live o c then c else null

-- the same without its count: the model's capability
abbrev pub meaning : Items → Capability → Capability
meaning o c = if is_live o c then bare c else null

-- ---- a function of each capability that is stored

-- a GPT with the function applied to each of its slots
abbrev pub gpt_map : (Capability → Capability) → GptValue → GptValue
gpt_map f gpt = record gpt { slots = map f gpt.slots }

-- a process with the function applied to its capability registers and slots
abbrev pub process_map : (Capability → Capability) → ProcessValue → ProcessValue
process_map f process = record process { capregs = map f process.capregs; slots = map f process.slots }

-- an endpoint with the function applied to its recipient
abbrev pub endpoint_map : (Capability → Capability) → EndpointValue → EndpointValue
endpoint_map f endpoint = record endpoint { recipient = f endpoint.recipient }

-- the items with the function applied to each slot of each GPT; no count changes
abbrev pub items_map : (Capability → Capability) → Items → Items
items_map f o = record { counts = o.counts; gpts = map (gpt_map f) o.gpts }

-- the contents with the function applied to each capability; no byte of a page changes
abbrev pub contents_map : (Capability → Capability) → Contents → Contents
contents_map f c = record {
  pages = c.pages;
  cappages = map (map f) c.cappages;
  processes = map (process_map f) c.processes;
  endpoints = map (endpoint_map f) c.endpoints;
}

-- the store with the function applied to each capability that it has anywhere
abbrev pub store_map : (Capability → Capability) → Store → Store
store_map f s = record { harts = s.harts; items = items_map f s.items; contents = contents_map f s.contents }

-- ---- the model's map
--
-- The capabilities of the map have count 0, while its objects keep their counts. So a capability of the map is read as it
-- stands: asked again for its meaning or whether it is live, one to an object whose count has risen would seem dead. Ask
-- `is_live`, `live` and `meaning` of stored capabilities alone.

-- the items, slot by slot as they mean; the counts of the objects stay, as their ages
abbrev pub map_of : Items → Items
map_of o = items_map (meaning o) o

-- All objects as they mean: the map of the model's state. Its capabilities have no counts, so `meaning` and `live` are not
-- asked of it (see above).
abbrev pub state_map : Store → Store
state_map s = store_map (meaning s.items) s
