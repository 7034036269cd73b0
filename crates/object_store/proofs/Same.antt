-- Stores of the same sizes in which all objects are the same are equal; an object put in another's place is that object.
use Rattle.std.proofs.Common.{◌≡◌, ◌≢◌, ℕ, ◌<◌, ◌⊎◌, inl, inr, List, length, length-set, refl, sym, ap, ◌∙◌, subst}
use Rattle.std.proofs.lemmas.Bool.{cases_eq}
use Rattle.std.proofs.lemmas.List.{get_or-set_same, get_or-set_other, ext_get_or}
use Rattle.cap_format.specs.declared.kind.CapKind.{CapKind}
use Rattle.cap_format.specs.declared.kind.CapKind.TheVariants.{Page, CapPage, Gpt, Endpoint, Process}
use Rattle.cap_format.specs.Capability.{Capability}
use Rattle.gpt_objects.specs.Gpt.{GptValue, empty_gpt}
use Rattle.page_store.specs.Page.{empty_page}
use Rattle.page_store.specs.CapPage.{empty_cappage}
use Rattle.process_objects.specs.Process.{ProcessValue, empty_process}
use Rattle.endpoint_objects.specs.declared.endpoint.Endpoint.{Endpoint as EndpointValue}
use Rattle.endpoint_objects.specs.Endpoint.{empty_endpoint}
use Rattle.object_store.specs.declared.sizes.Sizes.{Sizes}
use Rattle.object_store.specs.Store.{Store, counts_by_kind, store_of, size_of, count_of, gpt_at, page_at, cappage_at, process_at, endpoint_at, sizes_of}
use Rattle.object_store.specs.Sizes.{size_in}
use Rattle.object_store.specs.Ranges.{IsStore}
use Rattle.object_store.specs.Object.{ObjectValue, object_at, with_object, SameObject, IsEven}
use Rattle.object_store.specs.Object.ObjectValue.{OfPage, OfCapPage, OfGpt, OfProcess, OfEndpoint, OfNone}

-- what all objects keep says that there are as many of each kind as counts
pub even_store : (s : Store) → IsStore s → IsEven s
even_store s is = record {
  pages = is.sized.pages;
  cappages = is.sized.cappages;
  gpts = is.ranged.each;
  processes = is.sized.processes;
  endpoints = is.sized.endpoints;
}

-- ---- the parts of one object, with those of a default

abbrev count_in : ObjectValue → ℕ
count_in (OfPage count page) = count
count_in (OfCapPage count page) = count
count_in (OfGpt count gpt) = count
count_in (OfProcess count process) = count
count_in (OfEndpoint count endpoint) = count
count_in OfNone = 0

abbrev page_in : ObjectValue → List ℕ
page_in (OfPage count page) = page
page_in x = empty_page

abbrev cappage_in : ObjectValue → List Capability
cappage_in (OfCapPage count page) = page
cappage_in x = empty_cappage

abbrev gpt_in : ObjectValue → GptValue
gpt_in (OfGpt count gpt) = gpt
gpt_in x = empty_gpt

abbrev process_in : ObjectValue → ProcessValue
process_in (OfProcess count process) = process
process_in x = empty_process

abbrev endpoint_in : ObjectValue → EndpointValue
endpoint_in (OfEndpoint count endpoint) = endpoint
endpoint_in x = empty_endpoint

-- ---- extensionality

-- stores with equal parts
same_parts : (s t : Store) → s.harts ≡ t.harts
    → s.items.counts.pages ≡ t.items.counts.pages → s.items.counts.cappages ≡ t.items.counts.cappages → s.items.counts.gpts ≡ t.items.counts.gpts
    → s.items.counts.processes ≡ t.items.counts.processes → s.items.counts.endpoints ≡ t.items.counts.endpoints
    → s.items.gpts ≡ t.items.gpts → s.contents.pages ≡ t.contents.pages → s.contents.cappages ≡ t.contents.cappages
    → s.contents.processes ≡ t.contents.processes → s.contents.endpoints ≡ t.contents.endpoints → s ≡ t
same_parts s t harts a b c d e gpts pages cappages processes endpoints = whole
  where
    by : (x : Store) → Store
    by x = store_of x.harts (counts_by_kind x.items.counts.pages x.items.counts.cappages x.items.counts.gpts x.items.counts.processes x.items.counts.endpoints) x.items.gpts x.contents.pages x.contents.cappages x.contents.processes x.contents.endpoints

    whole : by s ≡ by t
    whole = rw (harts, a, b, c, d, e, gpts, pages, cappages, processes, endpoints) refl

-- Stores of the same sizes are equal where each object is stored alike in both.
pub same_stores : (s t : Store) → IsEven s → IsEven t → sizes_of s ≡ sizes_of t → ((kind : CapKind) (n : ℕ) → SameObject kind n s t) → s ≡ t
same_stores s t even even_too sizes same =
    same_parts s t (ap (λ (z : Sizes). z.harts) sizes)
    (ext_get_or 0 _ _ pages (λ n h. ap count_in (same Page n)))
    (ext_get_or 0 _ _ cappages (λ n h. ap count_in (same CapPage n)))
    (ext_get_or 0 _ _ gpts (λ n h. ap count_in (same Gpt n)))
    (ext_get_or 0 _ _ processes (λ n h. ap count_in (same Process n)))
    (ext_get_or 0 _ _ endpoints (λ n h. ap count_in (same Endpoint n)))
    (ext_get_or empty_gpt _ _ (even.gpts ∙ gpts ∙ sym even_too.gpts) (λ n h. ap gpt_in (same Gpt n)))
    (ext_get_or empty_page _ _ (even.pages ∙ pages ∙ sym even_too.pages) (λ n h. ap page_in (same Page n)))
    (ext_get_or empty_cappage _ _ (even.cappages ∙ cappages ∙ sym even_too.cappages) (λ n h. ap cappage_in (same CapPage n)))
    (ext_get_or empty_process _ _ (even.processes ∙ processes ∙ sym even_too.processes) (λ n h. ap process_in (same Process n)))
    (ext_get_or empty_endpoint _ _ (even.endpoints ∙ endpoints ∙ sym even_too.endpoints) (λ n h. ap endpoint_in (same Endpoint n)))
  where
    pages : length s.items.counts.pages ≡ length t.items.counts.pages
    pages = ap (λ (z : Sizes). z.pages) sizes

    cappages : length s.items.counts.cappages ≡ length t.items.counts.cappages
    cappages = ap (λ (z : Sizes). z.cappages) sizes

    gpts : length s.items.counts.gpts ≡ length t.items.counts.gpts
    gpts = ap (λ (z : Sizes). z.gpts) sizes

    processes : length s.items.counts.processes ≡ length t.items.counts.processes
    processes = ap (λ (z : Sizes). z.processes) sizes

    endpoints : length s.items.counts.endpoints ≡ length t.items.counts.endpoints
    endpoints = ap (λ (z : Sizes). z.endpoints) sizes

-- the sizes of a store, by kind
pub size_in_store : (s : Store) (kind : CapKind) → size_in (sizes_of s) kind ≡ size_of s.items kind
size_in_store s Page = refl
size_in_store s CapPage = refl
size_in_store s Gpt = refl
size_in_store s Process = refl
size_in_store s Endpoint = refl
size_in_store s kind = refl

-- ---- an object put in another's place

-- no object comes or goes
pub sizes_with_object : (s : Store) (n : ℕ) (x : ObjectValue) → sizes_of (with_object s n x) ≡ sizes_of s
sizes_with_object s n (OfPage count page) = rw (length-set s.items.counts.pages n count) refl
sizes_with_object s n (OfCapPage count page) = rw (length-set s.items.counts.cappages n count) refl
sizes_with_object s n (OfGpt count gpt) = rw (length-set s.items.counts.gpts n count) refl
sizes_with_object s n (OfProcess count process) = rw (length-set s.items.counts.processes n count) refl
sizes_with_object s n (OfEndpoint count endpoint) = rw (length-set s.items.counts.endpoints n count) refl
sizes_with_object s n OfNone = refl

-- there are still as many objects as counts
pub even_with_object : (s : Store) (n : ℕ) (x : ObjectValue) → IsEven s → IsEven (with_object s n x)
even_with_object s n (OfPage count page) is = record { pages = length-set s.contents.pages n page ∙ is.pages ∙ sym (length-set s.items.counts.pages n count); cappages = is.cappages; gpts = is.gpts; processes = is.processes; endpoints = is.endpoints }
even_with_object s n (OfCapPage count page) is = record { pages = is.pages; cappages = length-set s.contents.cappages n page ∙ is.cappages ∙ sym (length-set s.items.counts.cappages n count); gpts = is.gpts; processes = is.processes; endpoints = is.endpoints }
even_with_object s n (OfGpt count gpt) is = record { pages = is.pages; cappages = is.cappages; gpts = length-set s.items.gpts n gpt ∙ is.gpts ∙ sym (length-set s.items.counts.gpts n count); processes = is.processes; endpoints = is.endpoints }
even_with_object s n (OfProcess count process) is = record { pages = is.pages; cappages = is.cappages; gpts = is.gpts; processes = length-set s.contents.processes n process ∙ is.processes ∙ sym (length-set s.items.counts.processes n count); endpoints = is.endpoints }
even_with_object s n (OfEndpoint count endpoint) is = record { pages = is.pages; cappages = is.cappages; gpts = is.gpts; processes = is.processes; endpoints = length-set s.contents.endpoints n endpoint ∙ is.endpoints ∙ sym (length-set s.items.counts.endpoints n count) }
even_with_object s n OfNone is = is

-- object `m` of a kind of `t`, put in place of object `n` of that kind of `s` that is there, is read again
pub object_at_with_object_here : (s t : Store) (kind : CapKind) (n m : ℕ) → IsEven s → n < size_of s.items kind → object_at (with_object s n (object_at t kind m)) kind n ≡ object_at t kind m
object_at_with_object_here s t Page n m is there =
    let within : n < length s.contents.pages = subst (λ (k : ℕ). n < k) (sym is.pages) there in
    rw (get_or-set_same s.items.counts.pages n (count_of t.items Page m) 0 there, get_or-set_same s.contents.pages n (page_at t m) empty_page within) refl
object_at_with_object_here s t CapPage n m is there =
    let within : n < length s.contents.cappages = subst (λ (k : ℕ). n < k) (sym is.cappages) there in
    rw (get_or-set_same s.items.counts.cappages n (count_of t.items CapPage m) 0 there, get_or-set_same s.contents.cappages n (cappage_at t m) empty_cappage within) refl
object_at_with_object_here s t Gpt n m is there =
    let within : n < length s.items.gpts = subst (λ (k : ℕ). n < k) (sym is.gpts) there in
    rw (get_or-set_same s.items.counts.gpts n (count_of t.items Gpt m) 0 there, get_or-set_same s.items.gpts n (gpt_at t.items m) empty_gpt within) refl
object_at_with_object_here s t Process n m is there =
    let within : n < length s.contents.processes = subst (λ (k : ℕ). n < k) (sym is.processes) there in
    rw (get_or-set_same s.items.counts.processes n (count_of t.items Process m) 0 there, get_or-set_same s.contents.processes n (process_at t m) empty_process within) refl
object_at_with_object_here s t Endpoint n m is there =
    let within : n < length s.contents.endpoints = subst (λ (k : ℕ). n < k) (sym is.endpoints) there in
    rw (get_or-set_same s.items.counts.endpoints n (count_of t.items Endpoint m) 0 there, get_or-set_same s.contents.endpoints n (endpoint_at t m) empty_endpoint within) refl
object_at_with_object_here s t kind n m is there = refl

-- every other object stays
pub object_at_with_object : (s t : Store) (kind : CapKind) (n m : ℕ) (k : CapKind) (i : ℕ) → ((k ≡ kind) × (i ≡ n)) ⊎ (object_at (with_object s n (object_at t kind m)) k i ≡ object_at s k i)
object_at_with_object s t kind n m k i = by kind k (cases_eq i n)
  where
    by : (kind k : CapKind) → (i ≡ n) ⊎ (i ≢ n) → ((k ≡ kind) × (i ≡ n)) ⊎ (object_at (with_object s n (object_at t kind m)) k i ≡ object_at s k i)
    by Page Page (inl here) = inl (refl, here)
    by CapPage CapPage (inl here) = inl (refl, here)
    by Gpt Gpt (inl here) = inl (refl, here)
    by Process Process (inl here) = inl (refl, here)
    by Endpoint Endpoint (inl here) = inl (refl, here)
    by Page Page (inr other) = inr (rw (get_or-set_other s.items.counts.pages n i (count_of t.items Page m) 0 other, get_or-set_other s.contents.pages n i (page_at t m) empty_page other) refl)
    by CapPage CapPage (inr other) = inr (rw (get_or-set_other s.items.counts.cappages n i (count_of t.items CapPage m) 0 other, get_or-set_other s.contents.cappages n i (cappage_at t m) empty_cappage other) refl)
    by Gpt Gpt (inr other) = inr (rw (get_or-set_other s.items.counts.gpts n i (count_of t.items Gpt m) 0 other, get_or-set_other s.items.gpts n i (gpt_at t.items m) empty_gpt other) refl)
    by Process Process (inr other) = inr (rw (get_or-set_other s.items.counts.processes n i (count_of t.items Process m) 0 other, get_or-set_other s.contents.processes n i (process_at t m) empty_process other) refl)
    by Endpoint Endpoint (inr other) = inr (rw (get_or-set_other s.items.counts.endpoints n i (count_of t.items Endpoint m) 0 other, get_or-set_other s.contents.endpoints n i (endpoint_at t m) empty_endpoint other) refl)
    by Page k is = inr refl
    by CapPage k is = inr refl
    by Gpt k is = inr refl
    by Process k is = inr refl
    by Endpoint k is = inr refl
    by kind k is = inr refl
