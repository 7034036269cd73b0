-- The objects of a machine as they are stored: what each record holds, and what a write makes of them.
use Rattle.std.specs.Prelude.{ℕ, ◌+◌, List, [], length, replicate, slice_index, slice_index_or, slice_set}
use Rattle.cap_format.specs.declared.kind.CapKind.{CapKind}
use Rattle.cap_format.specs.declared.kind.CapKind.TheVariants.{Page, CapPage, Gpt, Endpoint, Process}
use Rattle.cap_format.specs.Capability.{Capability}
use Rattle.gpt_objects.specs.Header.{HeaderValue}
use Rattle.gpt_objects.specs.Gpt.{GptValue, slot_of, with_slot, with_header, empty_gpt}
use Rattle.page_store.specs.Page.{empty_page}
use Rattle.page_store.specs.CapPage.{empty_cappage}
use Rattle.process_objects.specs.Process.{ProcessValue, empty_process}
use Rattle.endpoint_objects.specs.declared.endpoint.Endpoint.{Endpoint as EndpointValue}
use Rattle.endpoint_objects.specs.Endpoint.{empty_endpoint}
use Rattle.object_store.specs.declared.sizes.Sizes.{Sizes}

-- the allocation count of each object, by its kind and number (Coyotos)
pub record CountsValue : Type 0 where
  pub pages : List ℕ
  pub cappages : List ℕ
  pub gpts : List ℕ
  pub processes : List ℕ
  pub endpoints : List ℕ

-- the counts of all objects, by the lists of the five kinds
abbrev pub counts_by_kind : List ℕ → List ℕ → List ℕ → List ℕ → List ℕ → CountsValue
counts_by_kind pages cappages gpts processes endpoints =
    record { pages = pages; cappages = cappages; gpts = gpts; processes = processes; endpoints = endpoints }

-- what walks and mapping caches read: the counts of all objects, and the headers and slots of GPTs (this project's)
pub record Items : Type 0 where
  pub counts : CountsValue
  pub gpts : List GptValue

-- the rest, which no walk reads: the bytes of pages, the slots of capability pages, processes and endpoints
pub record Contents : Type 0 where
  pub pages : List (List ℕ)
  pub cappages : List (List Capability)
  pub processes : List ProcessValue
  pub endpoints : List EndpointValue

-- all objects, and the number of harts for which they were made
pub record Store : Type 0 where
  pub harts : ℕ
  pub items : Items
  pub contents : Contents

-- a store by its lists
abbrev pub store_of : ℕ → CountsValue → List GptValue → List (List ℕ) → List (List Capability) → List ProcessValue → List EndpointValue → Store
store_of harts counts gpts pages cappages processes endpoints = record {
  harts = harts;
  items = record { counts = counts; gpts = gpts };
  contents = record { pages = pages; cappages = cappages; processes = processes; endpoints = endpoints };
}

-- ---- reading

-- the counts of the objects of a kind: none where objects of this kind do not exist
abbrev pub counts_of : CountsValue → CapKind → List ℕ
counts_of counts Page = counts.pages
counts_of counts CapPage = counts.cappages
counts_of counts Gpt = counts.gpts
counts_of counts Process = counts.processes
counts_of counts Endpoint = counts.endpoints
counts_of counts _ = []

-- how many objects of a kind there are
abbrev pub size_of : Items → CapKind → ℕ
size_of o kind = length (counts_of o.counts kind)

-- the count of object `n` of a kind
abbrev pub count_of : Items → CapKind → ℕ → ℕ
count_of o kind n = slice_index (counts_of o.counts kind) n

-- GPT `g`, the empty one where there is none
abbrev pub gpt_at : Items → ℕ → GptValue
gpt_at o g = slice_index_or o.gpts g empty_gpt

-- the header of GPT `g`
abbrev pub header_at : Items → ℕ → HeaderValue
header_at o g = (gpt_at o g).header

-- the capability in slot `i` of GPT `g`, as it is stored
abbrev pub slot_at : Items → ℕ → ℕ → Capability
slot_at o g i = slot_of (gpt_at o g) i

-- the bytes of page `n`, zeros where there is none
abbrev pub page_at : Store → ℕ → List ℕ
page_at s n = slice_index_or s.contents.pages n empty_page

-- the slots of capability page `n`, Nulls where there is none
abbrev pub cappage_at : Store → ℕ → List Capability
cappage_at s n = slice_index_or s.contents.cappages n empty_cappage

-- process `n`, the empty one where there is none
abbrev pub process_at : Store → ℕ → ProcessValue
process_at s n = slice_index_or s.contents.processes n empty_process

-- endpoint `n`, the empty one where there is none
abbrev pub endpoint_at : Store → ℕ → EndpointValue
endpoint_at s n = slice_index_or s.contents.endpoints n empty_endpoint

-- ---- writing items

-- the counts with another one for object `n` of a kind
abbrev pub recounted : CountsValue → CapKind → ℕ → ℕ → CountsValue
recounted counts Page n count = record counts { pages = slice_set counts.pages n count }
recounted counts CapPage n count = record counts { cappages = slice_set counts.cappages n count }
recounted counts Gpt n count = record counts { gpts = slice_set counts.gpts n count }
recounted counts Process n count = record counts { processes = slice_set counts.processes n count }
recounted counts Endpoint n count = record counts { endpoints = slice_set counts.endpoints n count }
recounted counts _ n count = counts

-- the items with another count for object `n` of a kind
abbrev pub set_count : Items → CapKind → ℕ → ℕ → Items
set_count o kind n count = record { counts = recounted o.counts kind n count; gpts = o.gpts }

-- the items with another GPT in place of GPT `g`
abbrev pub set_gpt : Items → ℕ → GptValue → Items
set_gpt o g gpt = record { counts = o.counts; gpts = slice_set o.gpts g gpt }

-- the items with a capability written to slot `i` of GPT `g`
abbrev pub set_slot : Items → ℕ → ℕ → Capability → Items
set_slot o g i cap = set_gpt o g (with_slot (gpt_at o g) i cap)

-- the items with another header for GPT `g`, whose slots stay
abbrev pub set_header : Items → ℕ → HeaderValue → Items
set_header o g header = set_gpt o g (with_header (gpt_at o g) header)

-- ---- writing the store

-- the store with other items and the same contents
abbrev pub with_items : Store → Items → Store
with_items s items = record { harts = s.harts; items = items; contents = s.contents }

-- the same objects, for another number of harts
abbrev pub with_harts : Store → ℕ → Store
with_harts s harts = record { harts = harts; items = s.items; contents = s.contents }

-- the store with other contents and the same items
abbrev pub with_contents : Store → Contents → Store
with_contents s contents = record { harts = s.harts; items = s.items; contents = contents }

-- the store with other bytes in page `n`
abbrev pub with_page : Store → ℕ → List ℕ → Store
with_page s n page = with_contents s (record s.contents { pages = slice_set s.contents.pages n page })

-- the store with other slots in capability page `n`
abbrev pub with_cappage : Store → ℕ → List Capability → Store
with_cappage s n page = with_contents s (record s.contents { cappages = slice_set s.contents.cappages n page })

-- the store with another process in place of process `n`
abbrev pub with_process : Store → ℕ → ProcessValue → Store
with_process s n process = with_contents s (record s.contents { processes = slice_set s.contents.processes n process })

-- the store with another endpoint in place of endpoint `n`
abbrev pub with_endpoint : Store → ℕ → EndpointValue → Store
with_endpoint s n endpoint = with_contents s (record s.contents { endpoints = slice_set s.contents.endpoints n endpoint })

-- ---- emptying one object

-- the GPTs with object `n` of a kind empty: one of them where the kind is GPT, and none otherwise
abbrev pub emptied_gpts : CapKind → ℕ → List GptValue → List GptValue
emptied_gpts Gpt n gpts = slice_set gpts n empty_gpt
emptied_gpts _ n gpts = gpts

-- the contents with object `n` of a kind empty: none of them where the kind is GPT
abbrev pub emptied_contents : CapKind → ℕ → Contents → Contents
emptied_contents Page n c = record c { pages = slice_set c.pages n empty_page }
emptied_contents CapPage n c = record c { cappages = slice_set c.cappages n empty_cappage }
emptied_contents Process n c = record c { processes = slice_set c.processes n empty_process }
emptied_contents Endpoint n c = record c { endpoints = slice_set c.endpoints n empty_endpoint }
emptied_contents _ n c = c

-- the store with object `n` of a kind empty, its count as it was
abbrev pub cleared : CapKind → ℕ → Store → Store
cleared kind n s = record {
  harts = s.harts;
  items = record { counts = s.items.counts; gpts = emptied_gpts kind n s.items.gpts };
  contents = emptied_contents kind n s.contents;
}

-- the items after a destruction of object `n` of a kind: its count one higher, and it is empty where it is a GPT
abbrev pub emptied_items : CapKind → ℕ → Items → Items
emptied_items kind n o = record {
  counts = recounted o.counts kind n (count_of o kind n + 1);
  gpts = emptied_gpts kind n o.gpts;
}

-- the store after a destruction of object `n` of a kind: it is empty, its count one higher, and all else the same
abbrev pub emptied : CapKind → ℕ → Store → Store
emptied kind n s = record {
  harts = s.harts;
  items = emptied_items kind n s.items;
  contents = emptied_contents kind n s.contents;
}

-- ---- the sizes, and the store of new objects

-- the sizes of a store
abbrev pub sizes_of : Store → Sizes
sizes_of s = record {
  harts = s.harts;
  pages = length s.items.counts.pages;
  cappages = length s.items.counts.cappages;
  gpts = length s.items.counts.gpts;
  processes = length s.items.counts.processes;
  endpoints = length s.items.counts.endpoints;
}

-- count 0 for each object of these sizes
abbrev pub new_counts : Sizes → CountsValue
new_counts sizes = record {
  pages = replicate sizes.pages 0;
  cappages = replicate sizes.cappages 0;
  gpts = replicate sizes.gpts 0;
  processes = replicate sizes.processes 0;
  endpoints = replicate sizes.endpoints 0;
}

-- objects of these sizes, all empty with count 0
abbrev pub empty_store : Sizes → Store
empty_store sizes = record {
  harts = sizes.harts;
  items = record { counts = new_counts sizes; gpts = replicate sizes.gpts empty_gpt };
  contents = record {
    pages = replicate sizes.pages empty_page;
    cappages = replicate sizes.cappages empty_cappage;
    processes = replicate sizes.processes empty_process;
    endpoints = replicate sizes.endpoints empty_endpoint;
  };
}
