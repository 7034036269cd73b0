-- What is so of the meaning of each capability that is stored, and of Null, is so of each of the map; and the other way round.
use Rattle.std.proofs.Common.{◌≡◌, ℕ, zero, suc, ◌+◌, ◌-◌, ◌<◌, ◌≤◌, Bool, true, false, nat_lt, if◌then◌else◌, inl, inr, List, map, length, get_or, replicate, refl, sym, ◌∙◌, ap, subst, arith}
use Rattle.std.proofs.lemmas.Bool.{cases_lt, lt-ltb, ltb-true}
use Rattle.std.proofs.lemmas.List.{get_or_past}
use Rattle.std.proofs.Math.ListN.{get_or-map}
use Rattle.cap_format.specs.declared.kind.CapKind.{CapKind}
use Rattle.cap_format.specs.declared.kind.CapKind.TheVariants.{CapPage, Gpt, Endpoint, Process}
use Rattle.cap_format.specs.Capability.{Capability, null}
use Rattle.gpt_objects.specs.Gpt.{GptValue, slot_of as gpt_slot_of, empty_gpt, empty_slots as empty_gpt_slots}
use Rattle.page_store.specs.CapPage.{cap_at, empty_cappage}
use Rattle.process_objects.specs.Process.{ProcessValue, capreg_of, slot_of, empty_process, empty_capregs, empty_slots as empty_process_slots}
use Rattle.endpoint_objects.specs.declared.endpoint.Endpoint.{Endpoint as EndpointValue}
use Rattle.endpoint_objects.specs.Endpoint.{empty_endpoint}
use Rattle.object_store.specs.Store.{Store, size_of, gpt_at, slot_at, cappage_at, process_at, endpoint_at}
use Rattle.object_store.specs.Meaning.{meaning, state_map}
use Rattle.object_store.proofs.Means.{slot_at-map_of, cappage_at-state_map, process_at-state_map, endpoint_at-state_map}
use Rattle.object_store.specs.Places.{places_in, cap_in}
use Rattle.confine_check.specs.Full.{AreFull}

module _ (P : CapKind → ℕ → Capability → Type 0) where
  -- it is so of each capability that stands in an object
  pub record EachHas (s : Store) : Type 0 where
    pub slots : (g i : ℕ) → P Gpt g (slot_at s.items g i)
    pub cappages : (n i : ℕ) → P CapPage n (cap_at (cappage_at s n) i)
    pub capregs : (p i : ℕ) → P Process p (capreg_of (process_at s p) i)
    pub process_slots : (p i : ℕ) → P Process p (slot_of (process_at s p) i)
    pub recipients : (e : ℕ) → P Endpoint e (endpoint_at s e).recipient

  -- it is so of what each place of the objects of a kind holds, by its meaning
  abbrev pub PlacesHave : Store → CapKind → Type 0
  PlacesHave s kind = (n i : ℕ) → n < size_of s.items kind → i < places_in kind → P kind n (meaning s.items (cap_in s kind n i))

  -- all four kinds
  pub record AllHave (s : Store) : Type 0 where
    pub cappages : PlacesHave s CapPage
    pub gpts : PlacesHave s Gpt
    pub endpoints : PlacesHave s Endpoint
    pub processes : PlacesHave s Process

module _ (P : CapKind → ℕ → Capability → Type 0) (nothing : (kind : CapKind) (n : ℕ) → P kind n null) (s : Store) where
  -- the map's capabilities are the meanings of these
  abbrev Means : Capability → Capability
  Means c = meaning s.items c

  null_at : (n i : ℕ) → get_or (replicate n null) i null ≡ null
  null_at zero i = refl
  null_at (suc n) zero = refl
  null_at (suc n) (suc i) = null_at n i

  -- it is of Null, where there is no place
  null-held : (kind : CapKind) (n : ℕ) (c : Capability) → c ≡ null → P kind n (Means c)
  null-held kind n c e = subst (λ (d : Capability). P kind n (Means d)) (sym e) (nothing kind n)

  -- what is read of a list of meanings is the meaning of what is read
  read-meaning : (kind : CapKind) (n : ℕ) (xs : List Capability) (i : ℕ) → P kind n (Means (get_or xs i null)) → P kind n (get_or (map Means xs) i null)
  read-meaning kind n xs i m = subst (λ (c : Capability). P kind n c) (sym (get_or-map Means xs i null)) m

  meaning-read : (kind : CapKind) (n : ℕ) (xs : List Capability) (i : ℕ) → P kind n (get_or (map Means xs) i null) → P kind n (Means (get_or xs i null))
  meaning-read kind n xs i m = subst (λ (c : Capability). P kind n c) (get_or-map Means xs i null) m

  -- of a list of `m` capabilities those at places below `m` are known, and the others are Null
  below : (kind : CapKind) (n m : ℕ) (xs : List Capability) (i : ℕ) → length xs ≡ m → (i < m → P kind n (Means (get_or xs i null))) → P kind n (Means (get_or xs i null))
  below kind n m xs i size known = elim (cases_lt i m) [
    | inl there ↦ known there
    | inr past ↦ null-held kind n (get_or xs i null) (get_or_past xs i null (omega (arith, size, past)))
  ]

  not_below : (i : ℕ) → nat_lt (i + 3) 3 ≡ false
  not_below i = by (nat_lt (i + 3) 3) refl
    where
      by : (b : Bool) → nat_lt (i + 3) 3 ≡ b → b ≡ false
      by true e = let lt = ltb-true (i + 3) 3 e in absurd (omega (arith, lt))
      by false e = refl

  cap-capreg : (p i : ℕ) → cap_in s Process p (i + 3) ≡ capreg_of (process_at s p) i
  cap-capreg p i =
      let same : i + 3 - 3 ≡ i = omega arith in
      ap (λ (b : Bool). if b then slot_of (process_at s p) (i + 3) else capreg_of (process_at s p) (i + 3 - 3)) (not_below i) ∙ ap (λ (j : ℕ). capreg_of (process_at s p) j) same

  cap-slot : (p i : ℕ) → i < 3 → cap_in s Process p i ≡ slot_of (process_at s p) i
  cap-slot p i lt = ap (λ (b : Bool). if b then slot_of (process_at s p) i else capreg_of (process_at s p) (i - 3)) (lt-ltb i 3 lt)

  empty-gpt : (i : ℕ) → gpt_slot_of empty_gpt i ≡ null
  unfolding empty_gpt_slots
  empty-gpt i = null_at 16 i

  empty-cappage : (i : ℕ) → cap_at empty_cappage i ≡ null
  unfolding empty_cappage
  empty-cappage i = null_at 256 i

  empty-capreg : (i : ℕ) → capreg_of empty_process i ≡ null
  unfolding empty_capregs
  empty-capreg i = null_at 32 i

  empty-slot : (i : ℕ) → slot_of empty_process i ≡ null
  unfolding empty_process_slots
  empty-slot i = null_at 3 i

  module _ (full : AreFull s) (all : AllHave P s) where
    slot-held : (g i : ℕ) → P Gpt g (Means (slot_at s.items g i))
    slot-held g i = elim (cases_lt g (size_of s.items Gpt)) [
      | inl there ↦
          let each = full.is_store.ranged.each in
          let inside : g < length s.items.gpts = omega (arith, each, there) in
          let is = full.is_store.ranged.gpts g empty_gpt inside in
          below Gpt g 16 (gpt_at s.items g).slots i is.sixteen (λ place. all.gpts g i there place)
      | inr past ↦
          let each = full.is_store.ranged.each in
          let outside : length s.items.gpts ≤ g = omega (arith, each, past) in
          null-held Gpt g (slot_at s.items g i) (ap (λ (v : GptValue). gpt_slot_of v i) (get_or_past s.items.gpts g empty_gpt outside) ∙ empty-gpt i)
    ]

    cappage-held : (n i : ℕ) → P CapPage n (Means (cap_at (cappage_at s n) i))
    cappage-held n i = elim (cases_lt n (size_of s.items CapPage)) [
      | inl there ↦ below CapPage n 256 (cappage_at s n) i (full.cappages n there) (λ place. all.cappages n i there place)
      | inr past ↦
          let each = full.is_store.sized.cappages in
          let outside : length s.contents.cappages ≤ n = omega (arith, each, past) in
          null-held CapPage n (cap_at (cappage_at s n) i) (ap (λ (v : List Capability). cap_at v i) (get_or_past s.contents.cappages n empty_cappage outside) ∙ empty-cappage i)
    ]

    empty-there : (p : ℕ) → size_of s.items Process ≤ p → process_at s p ≡ empty_process
    empty-there p past =
        let each = full.is_store.sized.processes in
        let outside : length s.contents.processes ≤ p = omega (arith, each, past) in
        get_or_past s.contents.processes p empty_process outside

    capreg-held : (p i : ℕ) → P Process p (Means (capreg_of (process_at s p) i))
    capreg-held p i = elim (cases_lt p (size_of s.items Process)) [
      | inl there ↦
          let size = full.processes p there in
          below Process p 32 (process_at s p).capregs i size.0 (λ place.
          subst (λ (c : Capability). P Process p (Means c)) (cap-capreg p i) (all.processes p (i + 3) there (omega (arith, place))))
      | inr past ↦ null-held Process p (capreg_of (process_at s p) i) (ap (λ (v : ProcessValue). capreg_of v i) (empty-there p past) ∙ empty-capreg i)
    ]

    process_slot-held : (p i : ℕ) → P Process p (Means (slot_of (process_at s p) i))
    process_slot-held p i = elim (cases_lt p (size_of s.items Process)) [
      | inl there ↦
          let size = full.processes p there in
          below Process p 3 (process_at s p).slots i size.1 (λ place.
          subst (λ (c : Capability). P Process p (Means c)) (cap-slot p i place) (all.processes p i there (omega (arith, place))))
      | inr past ↦ null-held Process p (slot_of (process_at s p) i) (ap (λ (v : ProcessValue). slot_of v i) (empty-there p past) ∙ empty-slot i)
    ]

    recipient-held : (e : ℕ) → P Endpoint e (Means (endpoint_at s e).recipient)
    recipient-held e = elim (cases_lt e (size_of s.items Endpoint)) [
      | inl there ↦ all.endpoints e 0 there (omega arith)
      | inr past ↦
          let each = full.is_store.sized.endpoints in
          let outside : length s.contents.endpoints ≤ e = omega (arith, each, past) in
          null-held Endpoint e (endpoint_at s e).recipient (ap (λ (v : EndpointValue). v.recipient) (get_or_past s.contents.endpoints e empty_endpoint outside))
    ]

    -- so it is of each capability of the map
    pub each-has : EachHas P (state_map s)
    each-has = record {
      slots = λ g i. subst (λ (c : Capability). P Gpt g c) (sym (slot_at-map_of s.items g i)) (slot-held g i);
      cappages = λ n i. subst (λ (v : List Capability). P CapPage n (cap_at v i)) (sym (cappage_at-state_map s n)) (read-meaning CapPage n (cappage_at s n) i (cappage-held n i));
      capregs = λ p i. subst (λ (v : ProcessValue). P Process p (capreg_of v i)) (sym (process_at-state_map s p)) (read-meaning Process p (process_at s p).capregs i (capreg-held p i));
      process_slots = λ p i. subst (λ (v : ProcessValue). P Process p (slot_of v i)) (sym (process_at-state_map s p)) (read-meaning Process p (process_at s p).slots i (process_slot-held p i));
      recipients = λ e. subst (λ (v : EndpointValue). P Endpoint e v.recipient) (sym (endpoint_at-state_map s e)) (recipient-held e);
    }

  -- and the other way round
  process-places : EachHas P (state_map s) → PlacesHave P s Process
  process-places each p i there place = by (nat_lt i 3)
    where
      by : (b : Bool) → P Process p (Means (if b then slot_of (process_at s p) i else capreg_of (process_at s p) (i - 3)))
      by true = meaning-read Process p (process_at s p).slots i (subst (λ (v : ProcessValue). P Process p (slot_of v i)) (process_at-state_map s p) (each.process_slots p i))
      by false = meaning-read Process p (process_at s p).capregs (i - 3) (subst (λ (v : ProcessValue). P Process p (capreg_of v (i - 3))) (process_at-state_map s p) (each.capregs p (i - 3)))

  pub has-all : EachHas P (state_map s) → AllHave P s
  has-all each = record {
    cappages = λ n i there place. meaning-read CapPage n (cappage_at s n) i (subst (λ (v : List Capability). P CapPage n (cap_at v i)) (cappage_at-state_map s n) (each.cappages n i));
    gpts = λ g i there place. subst (λ (c : Capability). P Gpt g c) (slot_at-map_of s.items g i) (each.slots g i);
    endpoints = λ e i there place. subst (λ (v : EndpointValue). P Endpoint e v.recipient) (endpoint_at-state_map s e) (each.recipients e);
    processes = process-places each;
  }
