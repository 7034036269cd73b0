-- Which objects a write changes: laws of stores that differ in named objects alone.
use Rattle.std.proofs.Common.{◌≡◌, ◌≢◌, ℕ, ◌⊎◌, inl, inr, ◌+◌, List, [], ◌∷◌, ◌++◌, refl, sym, ap, ◌∙◌}
use Rattle.std.proofs.lemmas.Bool.{cases_eq}
use Rattle.std.proofs.lemmas.List.{get_or-set_other}
use Rattle.cap_format.specs.declared.kind.CapKind.{CapKind}
use Rattle.cap_format.specs.declared.kind.CapKind.TheVariants.{Page, CapPage, Gpt, Endpoint, Process}
use Rattle.cap_format.specs.Capability.{Capability}
use Rattle.gpt_objects.specs.Header.{HeaderValue}
use Rattle.gpt_objects.specs.Gpt.{GptValue, with_slot, with_header, empty_gpt}
use Rattle.page_store.specs.Page.{empty_page}
use Rattle.page_store.specs.CapPage.{empty_cappage}
use Rattle.process_objects.specs.Process.{ProcessValue, empty_process}
use Rattle.endpoint_objects.specs.declared.endpoint.Endpoint.{Endpoint as EndpointValue}
use Rattle.endpoint_objects.specs.Endpoint.{empty_endpoint}
use Rattle.object_store.specs.Store.{Store, count_of, gpt_at, set_gpt, set_slot, set_header, with_items, with_page, with_cappage, with_process, with_endpoint, emptied}
use Rattle.object_store.specs.Object.{ObjectName, object_name, SameObject, IsAmong, Stays}
use Rattle.object_store.specs.Object.ObjectValue.{OfPage, OfCapPage, OfGpt, OfProcess, OfEndpoint}
use Rattle.object_store.proofs.Lists.{get_or-set}

-- ---- no write, one write after the other

-- nothing changed
pub stays_same : (names : List ObjectName) (s : Store) → Stays names s s
stays_same names s = record { same = λ kind n. inr refl }

-- what no other object changed in two steps changed in both together
pub stays_then : (names : List ObjectName) (s t u : Store) → Stays names s t → Stays names t u → Stays names s u
stays_then names s t u first second = record { same = λ kind n. both kind n (first.same kind n) (second.same kind n) }
  where
    both : (kind : CapKind) (n : ℕ) → IsAmong kind n names ⊎ SameObject kind n s t → IsAmong kind n names ⊎ SameObject kind n t u → IsAmong kind n names ⊎ SameObject kind n s u
    both kind n (inl here) next = inl here
    both kind n (inr same) (inl here) = inl here
    both kind n (inr same) (inr then) = inr (same ∙ then)

-- it has no direction
pub stays_turned : (names : List ObjectName) (s t : Store) → Stays names s t → Stays names t s
stays_turned names s t stays = record { same = λ kind n. turned kind n (stays.same kind n) }
  where
    turned : (kind : CapKind) (n : ℕ) → IsAmong kind n names ⊎ SameObject kind n s t → IsAmong kind n names ⊎ SameObject kind n t s
    turned kind n (inl here) = inl here
    turned kind n (inr same) = inr (sym same)

-- ---- more names

-- what is among some names is among all that these are part of
pub stays_within : (names more : List ObjectName) (s t : Store) → ((kind : CapKind) (n : ℕ) → IsAmong kind n names → IsAmong kind n more) → Stays names s t → Stays more s t
stays_within names more s t within stays = record { same = λ kind n. named kind n (stays.same kind n) }
  where
    named : (kind : CapKind) (n : ℕ) → IsAmong kind n names ⊎ SameObject kind n s t → IsAmong kind n more ⊎ SameObject kind n s t
    named kind n (inl here) = inl (within kind n here)
    named kind n (inr same) = inr same

-- one more in front
pub stays_more : (name : ObjectName) (names : List ObjectName) (s t : Store) → Stays names s t → Stays (name ∷ names) s t
stays_more name names s t = stays_within names (name ∷ names) s t (λ kind n here. inr here)

-- one more behind the first
pub stays_after : (first second : ObjectName) (names : List ObjectName) (s t : Store) → Stays (first ∷ names) s t → Stays (first ∷ second ∷ names) s t
stays_after first second names s t = stays_within (first ∷ names) (first ∷ second ∷ names) s t by
  where
    by : (kind : CapKind) (n : ℕ) → IsAmong kind n (first ∷ names) → IsAmong kind n (first ∷ second ∷ names)
    by kind n (inl here) = inl here
    by kind n (inr later) = inr (inr later)

-- what is among the first names is among them and others
pub among_front : (kind : CapKind) (n : ℕ) (names others : List ObjectName) → IsAmong kind n names → IsAmong kind n (names ++ others)
among_front kind n [] others here = elim here [ ]
among_front kind n (name ∷ names) others (inl here) = inl here
among_front kind n (name ∷ names) others (inr later) = inr (among_front kind n names others later)

-- what is among the last names is among others and them
pub among_back : (kind : CapKind) (n : ℕ) (names others : List ObjectName) → IsAmong kind n others → IsAmong kind n (names ++ others)
among_back kind n [] others here = here
among_back kind n (name ∷ names) others here = inr (among_back kind n names others here)

-- others behind
pub stays_front : (names others : List ObjectName) (s t : Store) → Stays names s t → Stays (names ++ others) s t
stays_front names others s t = stays_within names (names ++ others) s t (λ kind n here. among_front kind n names others here)

-- others in front
pub stays_back : (names others : List ObjectName) (s t : Store) → Stays others s t → Stays (names ++ others) s t
stays_back names others s t = stays_within others (names ++ others) s t (λ kind n here. among_back kind n names others here)

-- the names of two steps, together those of both
pub stays_both : (names others : List ObjectName) (s t u : Store) → Stays names s t → Stays others t u → Stays (names ++ others) s u
stays_both names others s t u first second = stays_then (names ++ others) s t u (stays_front names others s t first) (stays_back names others t u second)

-- ---- one object written

-- a process
pub stays_process : (names : List ObjectName) (s : Store) (p : ℕ) (v : ProcessValue) → Stays (object_name Process p ∷ names) s (with_process s p v)
stays_process names s p v = record { same = by }
  where
    by : (kind : CapKind) (n : ℕ) → IsAmong kind n (object_name Process p ∷ names) ⊎ SameObject kind n s (with_process s p v)
    by Process n = elim (get_or-set s.contents.processes p n v empty_process) [
      | inl here ↦ inl (inl (refl, here.0))
      | inr other ↦ inr (ap (OfProcess (count_of s.items Process n)) (sym other))
    ]
    by kind n = inr refl

-- a page
pub stays_page : (names : List ObjectName) (s : Store) (p : ℕ) (v : List ℕ) → Stays (object_name Page p ∷ names) s (with_page s p v)
stays_page names s p v = record { same = by }
  where
    by : (kind : CapKind) (n : ℕ) → IsAmong kind n (object_name Page p ∷ names) ⊎ SameObject kind n s (with_page s p v)
    by Page n = elim (get_or-set s.contents.pages p n v empty_page) [
      | inl here ↦ inl (inl (refl, here.0))
      | inr other ↦ inr (ap (OfPage (count_of s.items Page n)) (sym other))
    ]
    by kind n = inr refl

-- a capability page
pub stays_cappage : (names : List ObjectName) (s : Store) (p : ℕ) (v : List Capability) → Stays (object_name CapPage p ∷ names) s (with_cappage s p v)
stays_cappage names s p v = record { same = by }
  where
    by : (kind : CapKind) (n : ℕ) → IsAmong kind n (object_name CapPage p ∷ names) ⊎ SameObject kind n s (with_cappage s p v)
    by CapPage n = elim (get_or-set s.contents.cappages p n v empty_cappage) [
      | inl here ↦ inl (inl (refl, here.0))
      | inr other ↦ inr (ap (OfCapPage (count_of s.items CapPage n)) (sym other))
    ]
    by kind n = inr refl

-- an endpoint
pub stays_endpoint : (names : List ObjectName) (s : Store) (p : ℕ) (v : EndpointValue) → Stays (object_name Endpoint p ∷ names) s (with_endpoint s p v)
stays_endpoint names s p v = record { same = by }
  where
    by : (kind : CapKind) (n : ℕ) → IsAmong kind n (object_name Endpoint p ∷ names) ⊎ SameObject kind n s (with_endpoint s p v)
    by Endpoint n = elim (get_or-set s.contents.endpoints p n v empty_endpoint) [
      | inl here ↦ inl (inl (refl, here.0))
      | inr other ↦ inr (ap (OfEndpoint (count_of s.items Endpoint n)) (sym other))
    ]
    by kind n = inr refl

-- a GPT
pub stays_gpt : (names : List ObjectName) (s : Store) (g : ℕ) (v : GptValue) → Stays (object_name Gpt g ∷ names) s (with_items s (set_gpt s.items g v))
stays_gpt names s g v = record { same = by }
  where
    by : (kind : CapKind) (n : ℕ) → IsAmong kind n (object_name Gpt g ∷ names) ⊎ SameObject kind n s (with_items s (set_gpt s.items g v))
    by Gpt n = elim (get_or-set s.items.gpts g n v empty_gpt) [
      | inl here ↦ inl (inl (refl, here.0))
      | inr other ↦ inr (ap (OfGpt (count_of s.items Gpt n)) (sym other))
    ]
    by kind n = inr refl

-- a slot of a GPT
pub stays_slot : (names : List ObjectName) (s : Store) (g i : ℕ) (c : Capability) → Stays (object_name Gpt g ∷ names) s (with_items s (set_slot s.items g i c))
stays_slot names s g i c = stays_gpt names s g (with_slot (gpt_at s.items g) i c)

-- the header of a GPT
pub stays_header : (names : List ObjectName) (s : Store) (g : ℕ) (h : HeaderValue) → Stays (object_name Gpt g ∷ names) s (with_items s (set_header s.items g h))
stays_header names s g h = stays_gpt names s g (with_header (gpt_at s.items g) h)

-- an object emptied, its count one higher
pub stays_emptied : (names : List ObjectName) (s : Store) (kind : CapKind) (n : ℕ) → Stays (object_name kind n ∷ names) s (emptied kind n s)
stays_emptied names s kind n = record { same = λ k m. by kind k m (cases_eq m n) }
  where
    by : (kind k : CapKind) (m : ℕ) → (m ≡ n) ⊎ (m ≢ n) → IsAmong k m (object_name kind n ∷ names) ⊎ SameObject k m s (emptied kind n s)
    by Page Page m (inl here) = inl (inl (refl, here))
    by CapPage CapPage m (inl here) = inl (inl (refl, here))
    by Gpt Gpt m (inl here) = inl (inl (refl, here))
    by Process Process m (inl here) = inl (inl (refl, here))
    by Endpoint Endpoint m (inl here) = inl (inl (refl, here))
    by Page Page m (inr other) = inr (rw (get_or-set_other s.items.counts.pages n m (count_of s.items Page n + 1) 0 other, get_or-set_other s.contents.pages n m empty_page empty_page other) refl)
    by CapPage CapPage m (inr other) = inr (rw (get_or-set_other s.items.counts.cappages n m (count_of s.items CapPage n + 1) 0 other, get_or-set_other s.contents.cappages n m empty_cappage empty_cappage other) refl)
    by Gpt Gpt m (inr other) = inr (rw (get_or-set_other s.items.counts.gpts n m (count_of s.items Gpt n + 1) 0 other, get_or-set_other s.items.gpts n m empty_gpt empty_gpt other) refl)
    by Process Process m (inr other) = inr (rw (get_or-set_other s.items.counts.processes n m (count_of s.items Process n + 1) 0 other, get_or-set_other s.contents.processes n m empty_process empty_process other) refl)
    by Endpoint Endpoint m (inr other) = inr (rw (get_or-set_other s.items.counts.endpoints n m (count_of s.items Endpoint n + 1) 0 other, get_or-set_other s.contents.endpoints n m empty_endpoint empty_endpoint other) refl)
    by Page k m is = inr refl
    by CapPage k m is = inr refl
    by Gpt k m is = inr refl
    by Process k m is = inr refl
    by Endpoint k m is = inr refl
    by kind k m is = inr (none k)
      where
        none : (k : CapKind) → SameObject k m s (emptied kind n s)
        none Page = refl
        none CapPage = refl
        none Gpt = refl
        none Process = refl
        none Endpoint = refl
        none k = refl
