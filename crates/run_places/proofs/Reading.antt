-- What holds of each place of the objects that there are, and of Null, holds of whatever is read of objects that have their
-- places: what is not there is read as Null.
use Rattle.std.proofs.Common.{◌≡◌, ℕ, zero, suc, ◌<◌, ◌≤◌, inl, inr, List, length, get_or, replicate, refl, sym, ◌∙◌, ap, subst, arith}
use Rattle.std.proofs.lemmas.Bool.{cases_lt}
use Rattle.std.proofs.lemmas.List.{get_or_past}
use Rattle.cap_format.specs.declared.kind.CapKind.{CapKind}
use Rattle.cap_format.specs.declared.kind.CapKind.TheVariants.{CapPage, Gpt, Endpoint, Process}
use Rattle.cap_format.specs.Capability.{Capability, null}
use Rattle.gpt_objects.specs.Gpt.{GptValue, slot_of as gpt_slot_of, empty_gpt, empty_slots as empty_gpt_slots}
use Rattle.page_store.specs.CapPage.{cap_at, empty_cappage}
use Rattle.process_objects.specs.Process.{ProcessValue, capreg_of, slot_of, empty_process, empty_capregs, empty_slots as empty_process_slots}
use Rattle.endpoint_objects.specs.declared.endpoint.Endpoint.{Endpoint as EndpointValue}
use Rattle.endpoint_objects.specs.Endpoint.{empty_endpoint}
use Rattle.object_store.specs.Store.{Store, size_of, gpt_at, slot_at, cappage_at, process_at, endpoint_at}
use Rattle.run_places.specs.Places.{HasPlaces}

-- ---- what is empty

null_at : (n i : ℕ) → get_or (replicate n null) i null ≡ null
null_at zero i = refl
null_at (suc n) zero = refl
null_at (suc n) (suc i) = null_at n i

empty-gpt : (i : ℕ) → gpt_slot_of empty_gpt i ≡ null
unfolding empty_gpt_slots
empty-gpt i = null_at 16 i

empty-cappage : (i : ℕ) → cap_at empty_cappage i ≡ null
unfolding empty_cappage
empty-cappage i = null_at 256 i

empty-capreg : (i : ℕ) → capreg_of empty_process i ≡ null
unfolding empty_capregs
empty-capreg i = null_at 32 i

empty-slot : (i : ℕ) → slot_of empty_process i ≡ null
unfolding empty_process_slots
empty-slot i = null_at 3 i

-- ---- what is read

module _ (s : Store) (has : HasPlaces s) (P : CapKind → ℕ → Capability → Type 0) (none : (kind : CapKind) (n : ℕ) → P kind n null) where
  is-null : (kind : CapKind) (n : ℕ) (c : Capability) → c ≡ null → P kind n c
  is-null kind n c e = subst (λ (d : Capability). P kind n d) (sym e) (none kind n)

  -- of a list of `k` capabilities those at places below `k` are known, and the others are Null
  below : (kind : CapKind) (n k : ℕ) (xs : List Capability) (i : ℕ) → length xs ≡ k → (i < k → P kind n (get_or xs i null)) → P kind n (get_or xs i null)
  below kind n k xs i size known = elim (cases_lt i k) [
    | inl there ↦ known there
    | inr past ↦ is-null kind n (get_or xs i null) (get_or_past xs i null (omega (arith, size, past)))
  ]

  pub slot-read : ((g i : ℕ) → g < size_of s.items Gpt → i < 16 → P Gpt g (slot_at s.items g i)) → (g i : ℕ) → P Gpt g (slot_at s.items g i)
  slot-read all g i = elim (cases_lt g (size_of s.items Gpt)) [
    | inl there ↦ let each = has.each_gpt in below Gpt g 16 (gpt_at s.items g).slots i (has.gpts g empty_gpt (omega (arith, each, there))) (λ place. all g i there place)
    | inr past ↦
        let each = has.each_gpt in
        is-null Gpt g (slot_at s.items g i) (ap (λ (v : GptValue). gpt_slot_of v i) (get_or_past s.items.gpts g empty_gpt (omega (arith, each, past))) ∙ empty-gpt i)
  ]

  pub cap-read : ((n i : ℕ) → n < size_of s.items CapPage → i < 256 → P CapPage n (cap_at (cappage_at s n) i)) → (n i : ℕ) → P CapPage n (cap_at (cappage_at s n) i)
  cap-read all n i = elim (cases_lt n (size_of s.items CapPage)) [
    | inl there ↦ let each = has.each_cappage in below CapPage n 256 (cappage_at s n) i (has.cappages n empty_cappage (omega (arith, each, there))) (λ place. all n i there place)
    | inr past ↦
        let each = has.each_cappage in
        is-null CapPage n (cap_at (cappage_at s n) i) (ap (λ (v : List Capability). cap_at v i) (get_or_past s.contents.cappages n empty_cappage (omega (arith, each, past))) ∙ empty-cappage i)
  ]

  empty-there : (p : ℕ) → size_of s.items Process ≤ p → process_at s p ≡ empty_process
  empty-there p past = let each = has.each_process in get_or_past s.contents.processes p empty_process (omega (arith, each, past))

  places : (p : ℕ) → p < size_of s.items Process → (length (process_at s p).capregs ≡ 32) × (length (process_at s p).slots ≡ 3)
  places p there = let each = has.each_process in has.processes p empty_process (omega (arith, each, there))

  pub capreg-read : ((p i : ℕ) → p < size_of s.items Process → i < 32 → P Process p (capreg_of (process_at s p) i)) → (p i : ℕ) → P Process p (capreg_of (process_at s p) i)
  capreg-read all p i = elim (cases_lt p (size_of s.items Process)) [
    | inl there ↦ below Process p 32 (process_at s p).capregs i (places p there).0 (λ place. all p i there place)
    | inr past ↦ is-null Process p (capreg_of (process_at s p) i) (ap (λ (v : ProcessValue). capreg_of v i) (empty-there p past) ∙ empty-capreg i)
  ]

  pub process_slot-read : ((p i : ℕ) → p < size_of s.items Process → i < 3 → P Process p (slot_of (process_at s p) i)) → (p i : ℕ) → P Process p (slot_of (process_at s p) i)
  process_slot-read all p i = elim (cases_lt p (size_of s.items Process)) [
    | inl there ↦ below Process p 3 (process_at s p).slots i (places p there).1 (λ place. all p i there place)
    | inr past ↦ is-null Process p (slot_of (process_at s p) i) (ap (λ (v : ProcessValue). slot_of v i) (empty-there p past) ∙ empty-slot i)
  ]

  pub recipient-read : ((e : ℕ) → e < size_of s.items Endpoint → P Endpoint e (endpoint_at s e).recipient) → (e : ℕ) → P Endpoint e (endpoint_at s e).recipient
  recipient-read all e = elim (cases_lt e (size_of s.items Endpoint)) [
    | inl there ↦ all e there
    | inr past ↦
        let each = has.each_endpoint in
        is-null Endpoint e (endpoint_at s e).recipient (ap (λ (v : EndpointValue). v.recipient) (get_or_past s.contents.endpoints e empty_endpoint (omega (arith, each, past))))
  ]
