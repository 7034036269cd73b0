-- What is found of the objects as they are stored is, but for counts, what is found of what they mean.
use Rattle.std.proofs.Common.{◌≡◌, ◌↔◌, ℕ, zero, suc, ◌+◌, ◌*◌, ◌-◌, ◌<◌, ◌≤◌, Bool, true, false, nat_lt, if◌then◌else◌, Option, Some, None, option_map, refl, sym, ◌∙◌, ap, subst, arith}
use Rattle.std.specs.Option.{option_or}
use Rattle.std.proofs.Math.ListN.{get_or-map}
use Rattle.cap_format.specs.declared.kind.CapKind.{CapKind}
use Rattle.cap_format.specs.declared.kind.CapKind.TheVariants.{CapPage, Gpt, Endpoint, Process}
use Rattle.cap_format.specs.Capability.{Capability, null, bare}
use Rattle.process_objects.specs.Process.{ProcessValue, capreg_of, slot_of}
use Rattle.page_store.specs.CapPage.{cap_at}
use Rattle.object_store.specs.Store.{Items, Store, size_of, cappage_at, process_at}
use Rattle.object_store.specs.Meaning.{is_live, live, meaning, state_map}
use Rattle.object_store.proofs.Means.{slot_at-map_of, cappage_at-state_map, process_at-state_map, endpoint_at-state_map}
use Rattle.machine_state.specs.State.{State}
use Rattle.confinement.specs.Cut.{Cut, IsClosed, side_of, Holds}
use Rattle.operations.specs.System.{system}
use Rattle.schedules.specs.Queues.{QueuesValue}
use Rattle.confine_check.specs.declared.verdict.Breach.{Breach}
use Rattle.confine_check.specs.declared.verdict.Verdict.{Verdict}
use Rattle.confine_check.specs.declared.verdict.Verdict.TheVariants.{Yes, Capability as CapabilityBreaks, Sleeper}
use Rattle.confine_check.specs.Full.{AreFull}
use Rattle.object_store.specs.Places.{cap_in, object_reads, places_in, reads_in}
use Rattle.confine_check.specs.Breach.{breach_at, breach_by, breach_of, breach_of_kind, breach_of_object, breach_with, broken_by, first_from, found_by, may_hold, sleeper_of, verdict_of}
use Rattle.confine_check.specs.Found.{kinds_before, meant, meant_of, meant_of_kind, meant_of_object, reads_to, verdict_in}
use Rattle.confine_check.proofs.Decided.{either_holds, verdict_law}
use Rattle.confine_check.proofs.First.{first_zero, first_suc}

-- ---- the first of several, seen through a function

module _ {A B : Type 0} (g : A → B) where
  or-map : (x y : Option A) → option_or (option_map g x) (option_map g y) ≡ option_map g (option_or x y)
  or-map None y = refl
  or-map (Some a) y = refl

  first-map : (f : ℕ → Option A) (h : ℕ → Option B) → ((i : ℕ) → h i ≡ option_map g (f i)) → (n i : ℕ) → first_from h i n ≡ option_map g (first_from f i n)
  first-map f h same zero i = first_zero h i ∙ ap (option_map g) (sym (first_zero f i))
  first-map f h same (suc n) i =
      first_suc h i n
      ∙ ap (λ x. option_or x (first_from h (suc i) n)) (same i)
      ∙ ap (λ y. option_or (option_map g (f i)) y) (first-map f h same n (suc i))
      ∙ or-map (f i) (first_from f (suc i) n)
      ∙ ap (option_map g) (sym (first_suc f i n))

-- ---- what stands in a place

-- of the map it is the meaning of what is stored
pub cap_in-state_map : (s : Store) (kind : CapKind) (n i : ℕ) → cap_in (state_map s) kind n i ≡ meaning s.items (cap_in s kind n i)
cap_in-state_map s CapPage n i = ap (λ page. cap_at page i) (cappage_at-state_map s n) ∙ get_or-map (meaning s.items) (cappage_at s n) i null
cap_in-state_map s Gpt n i = slot_at-map_of s.items n i
cap_in-state_map s Endpoint n i = ap (λ endpoint. endpoint.recipient) (endpoint_at-state_map s n)
cap_in-state_map s Process n i = by (nat_lt i 3)
  where
    by : (b : Bool) → (if b then slot_of (process_at (state_map s) n) i else capreg_of (process_at (state_map s) n) (i - 3))
        ≡ meaning s.items (if b then slot_of (process_at s n) i else capreg_of (process_at s n) (i - 3))
    by true = ap (λ (process : ProcessValue). slot_of process i) (process_at-state_map s n) ∙ get_or-map (meaning s.items) (process_at s n).slots i null
    by false = ap (λ (process : ProcessValue). capreg_of process (i - 3)) (process_at-state_map s n) ∙ get_or-map (meaning s.items) (process_at s n).capregs (i - 3) null
cap_in-state_map s _ n i = refl

-- a capability that breaks a cut by what it means, which has no count
abbrev meant_breach : Breach → Breach
meant_breach found = record found { cap = bare found.cap }

-- it breaks the cut where what is stored does
breach-meant : (cut : Cut) (o : Items) (kind : CapKind) (n i : ℕ) (c : Capability) → breach_by cut kind n i (meaning o c) ≡ option_map meant_breach (breach_by cut kind n i (live o c))
breach-meant cut o kind n i c = by (is_live o c)
  where
    held : (d e : Capability) (b : Bool) → bare d ≡ e → (if b then None else Some (breach_with kind n i e)) ≡ option_map meant_breach (if b then None else Some (breach_with kind n i d))
    held d e true same = refl
    held d e false same = ap (λ x. Some (breach_with kind n i x)) (sym same)

    by : (b : Bool) → breach_by cut kind n i (if b then bare c else null) ≡ option_map meant_breach (breach_by cut kind n i (if b then c else null))
    by true = held c (bare c) (may_hold cut (side_of cut kind n) c) refl
    by false = held null null (may_hold cut (side_of cut kind n) null) refl

-- ---- all objects

module _ (cut : Cut) (s : Store) where
  object-meant : (kind : CapKind) (n : ℕ) → meant_of_object cut (state_map s) kind n ≡ option_map meant_breach (breach_of_object cut s kind n)
  object-meant kind n =
      first-map meant_breach (breach_at cut s kind n) (λ i. breach_by cut kind n i (cap_in (state_map s) kind n i))
      (λ i. ap (breach_by cut kind n i) (cap_in-state_map s kind n i) ∙ breach-meant cut s.items kind n i (cap_in s kind n i))
      (places_in kind) 0

  kind-meant : (kind : CapKind) → meant_of_kind cut (state_map s) kind ≡ option_map meant_breach (breach_of_kind cut s kind)
  kind-meant kind =
      ap (first_from (meant_of_object cut (state_map s) kind) 0) (sizes kind)
      ∙ first-map meant_breach (breach_of_object cut s kind) (meant_of_object cut (state_map s) kind) (object-meant kind) (size_of s.items kind) 0
    where
      sizes : (kind : CapKind) → size_of (state_map s).items kind ≡ size_of s.items kind
      sizes kind = refl

  all-meant : meant_of cut (state_map s) ≡ option_map meant_breach (breach_of cut s)
  all-meant =
      ap (λ x. option_or x (option_or (meant_of_kind cut (state_map s) Gpt) (option_or (meant_of_kind cut (state_map s) Endpoint) (meant_of_kind cut (state_map s) Process)))) (kind-meant CapPage)
      ∙ ap (λ x. option_or (option_map meant_breach (breach_of_kind cut s CapPage)) (option_or x (option_or (meant_of_kind cut (state_map s) Endpoint) (meant_of_kind cut (state_map s) Process)))) (kind-meant Gpt)
      ∙ ap (λ x. option_or (option_map meant_breach (breach_of_kind cut s CapPage)) (option_or (option_map meant_breach (breach_of_kind cut s Gpt)) (option_or x (meant_of_kind cut (state_map s) Process)))) (kind-meant Endpoint)
      ∙ ap (λ x. option_or (option_map meant_breach (breach_of_kind cut s CapPage)) (option_or (option_map meant_breach (breach_of_kind cut s Gpt)) (option_or (option_map meant_breach (breach_of_kind cut s Endpoint)) x))) (kind-meant Process)
      ∙ ap (λ x. option_or (option_map meant_breach (breach_of_kind cut s CapPage)) (option_or (option_map meant_breach (breach_of_kind cut s Gpt)) x)) (or-map meant_breach (breach_of_kind cut s Endpoint) (breach_of_kind cut s Process))
      ∙ ap (λ x. option_or (option_map meant_breach (breach_of_kind cut s CapPage)) x) (or-map meant_breach (breach_of_kind cut s Gpt) (option_or (breach_of_kind cut s Endpoint) (breach_of_kind cut s Process)))
      ∙ or-map meant_breach (breach_of_kind cut s CapPage) (option_or (breach_of_kind cut s Gpt) (option_or (breach_of_kind cut s Endpoint) (breach_of_kind cut s Process)))

found-meant : (o : Option Breach) (p : Option ℕ) → found_by (option_map meant_breach o) p ≡ meant (found_by o p)
found-meant (Some found) p = refl
found-meant None (Some p) = refl
found-meant None None = refl

-- what is found of a state is what is found of the objects that mean it, but for the count
pub verdict-meant : (cut : Cut) (s : Store) (q : QueuesValue) (halted : Bool) → verdict_in cut (record { store = state_map s; queues = q; halted = halted }) ≡ meant (verdict_of cut s q)
verdict-meant cut s q halted = ap (λ o. found_by o (sleeper_of cut q)) (all-meant cut s) ∙ found-meant (breach_of cut s) (sleeper_of cut q)

-- a Yes has no count
pub meant-yes : (v : Verdict) → meant v ≡ Yes → v ≡ Yes
meant-yes Yes e = refl
meant-yes (CapabilityBreaks kind n i c) e = absurd (cc (e))
meant-yes (Sleeper p) e = absurd (cc (e))

-- nothing is found of a state exactly where the cut holds
pub verdict_in-exactly : (cut : Cut) (s : Store) (q : QueuesValue) (halted : Bool) → IsClosed cut → AreFull s
    → (verdict_in cut (record { store = state_map s; queues = q; halted = halted }) ≡ Yes) ↔ Holds cut (system (state_map s) q)
verdict_in-exactly cut s q halted closed full =
    let law = verdict_law cut s q closed full in
    let same = verdict-meant cut s q halted in
    (λ yes. law.0 (meant-yes (verdict_of cut s q) (sym same ∙ yes)), λ holds. same ∙ ap meant (law.1 holds))

-- what is found in a place is the capability that stands there
pub found-at : (cut : Cut) (s : Store) (kind : CapKind) (n i : ℕ) (v : Breach) → breach_at cut s kind n i ≡ Some v → v ≡ breach_with kind n i (live s.items (cap_in s kind n i))
found-at cut s kind n i v = by (may_hold cut (side_of cut kind n) (live s.items (cap_in s kind n i)))
  where
    by : (b : Bool) → (if b then None else Some (breach_with kind n i (live s.items (cap_in s kind n i)))) ≡ Some v → v ≡ breach_with kind n i (live s.items (cap_in s kind n i))
    by true e = absurd (cc (e))
    by false e = cc

-- ---- how many slots are read

module _ {A : Type 0} (P : A → Type 0) (f : ℕ → Option A) where
  -- what holds of each answer within the bounds holds of the first
  first_within : (n i : ℕ) → ((j : ℕ) → i ≤ j → j < i + n → (x : A) → f j ≡ Some x → P x) → (x : A) → first_from f i n ≡ Some x → P x
  first_within zero i all x e = let h = sym (first_zero f i) ∙ e in absurd (cc (h))
  first_within (suc n) i all x e =
      by (f i) refl (sym (first_suc f i n) ∙ e)
      (first_within n (suc i) (λ j low high y is. all j (omega (arith, low)) (omega (arith, high)) y is) x)
    where
      by : (o : Option A) → f i ≡ o → option_or o (first_from f (suc i) n) ≡ Some x → (first_from f (suc i) n ≡ Some x → P x) → P x
      by None is e rest = rest e
      by (Some y) is e rest = all i (omega arith) (omega arith) x (is ∙ e)

module _ (cut : Cut) (s : Store) where
  abbrev gpts : ℕ
  gpts = size_of s.items Gpt

  abbrev AreFew : Breach → Type 0
  AreFew v = reads_to (broken_by v) gpts ≤ 16 * gpts

  kind-few : (kind : CapKind) → ((n i : ℕ) → n < size_of s.items kind → i < places_in kind → kinds_before kind gpts + object_reads kind * n + reads_in kind * (i + 1) ≤ 16 * gpts)
      → (v : Breach) → meant_of_kind cut s kind ≡ Some v → AreFew v
  kind-few kind few =
      first_within AreFew (meant_of_object cut s kind) (size_of s.items kind) 0 (λ n low inside.
      first_within AreFew (λ i. breach_by cut kind n i (cap_in s kind n i)) (places_in kind) 0 (λ i lower within v is.
      by n i v (may_hold cut (side_of cut kind n) (cap_in s kind n i)) (few n i (omega (arith, inside)) (omega (arith, within))) is))
    where
      by : (n i : ℕ) (v : Breach) (b : Bool) → kinds_before kind gpts + object_reads kind * n + reads_in kind * (i + 1) ≤ 16 * gpts
          → (if b then None else Some (breach_with kind n i (cap_in s kind n i))) ≡ Some v → AreFew v
      by n i v true few is = absurd (cc (is))
      by n i v false few is = let same : breach_with kind n i (cap_in s kind n i) ≡ v = cc (is) in subst AreFew same few

  all-few : (v : Breach) → meant_of cut s ≡ Some v → AreFew v
  all-few =
      either_holds AreFew (meant_of_kind cut s CapPage) _ (kind-few CapPage (λ n i there place. omega arith))
      (either_holds AreFew (meant_of_kind cut s Gpt) _ (kind-few Gpt (λ n i there place. omega (arith, there, place)))
      (either_holds AreFew (meant_of_kind cut s Endpoint) (meant_of_kind cut s Process) (kind-few Endpoint (λ n i there place. omega arith)) (kind-few Process (λ n i there place. omega arith))))

-- never more than there are
pub reads-most : (cut : Cut) (s : State) → reads_to (verdict_in cut s) (size_of s.store.items Gpt) ≤ 16 * size_of s.store.items Gpt
reads-most cut s = by (meant_of cut s.store) refl (sleeper_of cut s.queues)
  where
    by : (o : Option Breach) → meant_of cut s.store ≡ o → (p : Option ℕ) → reads_to (found_by o p) (size_of s.store.items Gpt) ≤ 16 * size_of s.store.items Gpt
    by (Some v) is p = all-few cut s.store v is
    by None is (Some p) = omega arith
    by None is None = omega arith
