-- A store is that of the values of all its objects.
use Rattle.std.proofs.Common.{◌≡◌, ℕ, ◌<◌, ◌≤◌, ◌⊎◌, inl, inr, List, [], ◌∷◌, map, get_or, slice_get, Some, refl, sym, ap, ◌∙◌, subst, arith}
use Rattle.std.proofs.lemmas.Bool.{cases_lt}
use Rattle.std.proofs.lemmas.List.{get_or_past, length-replicate}
use Rattle.std.proofs.lemmas.Option.{get_or_from_slice_get}
use Rattle.std.proofs.lemmas.List.Elements.{All-cons}
use Rattle.cap_format.specs.declared.kind.CapKind.{CapKind}
use Rattle.cap_format.specs.declared.kind.CapKind.TheVariants.{Page, CapPage, Gpt, Endpoint, Process}
use Rattle.gpt_objects.specs.Gpt.{empty_gpt}
use Rattle.page_store.specs.Page.{empty_page}
use Rattle.page_store.specs.CapPage.{empty_cappage}
use Rattle.process_objects.specs.Process.{empty_process}
use Rattle.endpoint_objects.specs.Endpoint.{empty_endpoint}
use Rattle.object_store.specs.declared.sizes.Sizes.{Sizes}
use Rattle.object_store.specs.Store.{Store, size_of, sizes_of, empty_store}
use Rattle.object_store.specs.Object.{ObjectName, ObjectValue, object_at, SameObject, IsAmong, IsEven}
use Rattle.object_store.specs.Object.ObjectValue.{OfPage, OfCapPage, OfGpt, OfProcess, OfEndpoint, OfNone}
use Rattle.object_store.specs.Saved.{Saved, saved_of, restored, AreThere}
use Rattle.object_store.proofs.Same.{size_in_store}
use Rattle.object_store.proofs.Restored.{restored_same, size_of_same}
use Rattle.state_parts.specs.Keys.{AreAll, objects_of, values_of, saved_by, store_by}

-- ---- objects that are not there

-- an object that is not there
absent : CapKind → ObjectValue
absent Page = OfPage 0 empty_page
absent CapPage = OfCapPage 0 empty_cappage
absent Gpt = OfGpt 0 empty_gpt
absent Process = OfProcess 0 empty_process
absent Endpoint = OfEndpoint 0 empty_endpoint
absent kind = OfNone

past_object : (s : Store) (kind : CapKind) (n : ℕ) → IsEven s → size_of s.items kind ≤ n → object_at s kind n ≡ absent kind
unfolding absent
past_object s Page n even past = rw (get_or_past s.items.counts.pages n 0 past, get_or_past s.contents.pages n empty_page (omega (arith, past, even.pages))) refl
past_object s CapPage n even past = rw (get_or_past s.items.counts.cappages n 0 past, get_or_past s.contents.cappages n empty_cappage (omega (arith, past, even.cappages))) refl
past_object s Gpt n even past = rw (get_or_past s.items.counts.gpts n 0 past, get_or_past s.items.gpts n empty_gpt (omega (arith, past, even.gpts))) refl
past_object s Process n even past = rw (get_or_past s.items.counts.processes n 0 past, get_or_past s.contents.processes n empty_process (omega (arith, past, even.processes))) refl
past_object s Endpoint n even past = rw (get_or_past s.items.counts.endpoints n 0 past, get_or_past s.contents.endpoints n empty_endpoint (omega (arith, past, even.endpoints))) refl
past_object s kind n even past = refl

-- an object that is not there is the same in stores of the same sizes
pub past_same : (s t : Store) (kind : CapKind) (n : ℕ) → IsEven s → IsEven t → sizes_of s ≡ sizes_of t → size_of s.items kind ≤ n → SameObject kind n s t
past_same s t kind n even even_too sizes past =
    let Most : ℕ → Type 0 = λ k. k ≤ n in
    past_object s kind n even past ∙ sym (past_object t kind n even_too (subst Most (size_of_same s t sizes kind) past))

-- ---- all objects are named

-- an object is named, or is not there
pub named_or_past : (s : Store) (names : List ObjectName) (kind : CapKind) (n : ℕ) → AreAll (sizes_of s) names → IsAmong kind n names ⊎ (size_of s.items kind ≤ n)
named_or_past s names kind n all = elim (cases_lt n (size_of s.items kind)) [
  | inl there ↦ inl (all.all kind n (subst (λ (k : ℕ). n < k) (sym (size_in_store s kind)) there))
  | inr past ↦ inr past
]

-- ---- the store of its objects

saved_by_objects : (s : Store) (names : List ObjectName) → saved_by names (objects_of names s) ≡ map (saved_of s) names
saved_by_objects s [] = refl
saved_by_objects s (name ∷ names) = ap (λ (rest : List Saved). saved_of s name ∷ rest) (saved_by_objects s names)

-- there are as many objects as counts
pub even_empty : (sizes : Sizes) → IsEven (empty_store sizes)
even_empty sizes = record {
  pages = length-replicate sizes.pages empty_page ∙ sym (length-replicate sizes.pages 0);
  cappages = length-replicate sizes.cappages empty_cappage ∙ sym (length-replicate sizes.cappages 0);
  gpts = length-replicate sizes.gpts empty_gpt ∙ sym (length-replicate sizes.gpts 0);
  processes = length-replicate sizes.processes empty_process ∙ sym (length-replicate sizes.processes 0);
  endpoints = length-replicate sizes.endpoints empty_endpoint ∙ sym (length-replicate sizes.endpoints 0);
}

-- empty objects are as many as was said
pub sizes_empty : (sizes : Sizes) → sizes_of (empty_store sizes) ≡ sizes
sizes_empty sizes = whole (length-replicate sizes.pages 0) (length-replicate sizes.cappages 0) (length-replicate sizes.gpts 0) (length-replicate sizes.processes 0) (length-replicate sizes.endpoints 0)
  where
    by : ℕ → ℕ → ℕ → ℕ → ℕ → Sizes
    by a b c d e = record { harts = sizes.harts; pages = a; cappages = b; gpts = c; processes = d; endpoints = e }

    whole : {a b c d e : ℕ} → a ≡ sizes.pages → b ≡ sizes.cappages → c ≡ sizes.gpts → d ≡ sizes.processes → e ≡ sizes.endpoints → by a b c d e ≡ by sizes.pages sizes.cappages sizes.gpts sizes.processes sizes.endpoints
    whole h1 h2 h3 h4 h5 = rw (h1, h2, h3, h4, h5) refl

-- all names are those of objects that are there
pub names_there : (s : Store) (names : List ObjectName) → AreAll (sizes_of s) names → AreThere s names
names_there s names all = each names (λ kind n among. subst (λ (k : ℕ). n < k) (size_in_store s kind) (all.there kind n among))
  where
    each : (names : List ObjectName) → ((kind : CapKind) (n : ℕ) → IsAmong kind n names → n < size_of s.items kind) → AreThere s names
    each [] there = λ i d within. absurd (omega (arith, within))
    each (name ∷ names) there = All-cons (λ (x : ObjectName). x.number < size_of s.items x.kind) name names (there name.kind name.number (inl (refl, refl))) (each names (λ kind n among. there kind n (inr among)))

-- the store of all objects of a store is itself
pub store_by_objects : (s : Store) (names : List ObjectName) → IsEven s → AreAll (sizes_of s) names → store_by (sizes_of s) names (objects_of names s) ≡ s
store_by_objects s names even all =
    let empty = empty_store (sizes_of s) in
    let sizes : sizes_of empty ≡ sizes_of s = sizes_empty (sizes_of s) in
    let All_of : Sizes → Type 0 = λ z. AreAll z names in
    ap (λ (saved : List Saved). restored saved empty) (saved_by_objects s names)
    ∙ restored_same s empty names even (even_empty (sizes_of s)) sizes (names_there empty names (subst All_of (sym sizes) all)) (record { same = λ kind n. by kind n (named_or_past s names kind n all) })
  where
    by : (kind : CapKind) (n : ℕ) → IsAmong kind n names ⊎ (size_of s.items kind ≤ n) → IsAmong kind n names ⊎ SameObject kind n s (empty_store (sizes_of s))
    by kind n (inl among) = inl among
    by kind n (inr past) = inr (past_same s (empty_store (sizes_of s)) kind n even (even_empty (sizes_of s)) (sym (sizes_empty (sizes_of s))) past)

-- ---- what numbers read

-- what is read are the values
pub values_read : (table : List ObjectValue) (numbers : List ℕ) (objects : List ObjectValue) → map (slice_get table) numbers ≡ map Some objects → values_of table numbers ≡ objects
values_read table [] [] e = refl
values_read table [] (x ∷ xs) e = cc
values_read table (i ∷ is) [] e = cc
values_read table (i ∷ is) (x ∷ xs) e = joined (get_or_from_slice_get table i x OfNone first) (values_read table is xs rest)
  where
    first : slice_get table i ≡ Some x
    first = cc

    rest : map (slice_get table) is ≡ map Some xs
    rest = cc

    joined : get_or table i OfNone ≡ x → values_of table is ≡ xs → get_or table i OfNone ∷ values_of table is ≡ x ∷ xs
    joined h t = rw (h, t) refl
