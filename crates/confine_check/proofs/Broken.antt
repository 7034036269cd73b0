-- A capability that is found is the first that breaks the cut.
use Rattle.std.proofs.Common.{◌≡◌, ℕ, zero, suc, ◌+◌, ◌<◌, ◌≤◌, ◌⊎◌, inl, inr, Bool, true, false, if◌then◌else◌, Option, Some, None, refl, sym, ◌∙◌, ap, subst, arith}
use Rattle.std.specs.Option.{option_or}
use Rattle.std.proofs.lemmas.Bool.{cases_lt}
use Rattle.cap_format.specs.declared.kind.CapKind.{CapKind}
use Rattle.cap_format.specs.declared.kind.CapKind.TheVariants.{CapPage, Gpt, Endpoint, Process}
use Rattle.object_store.specs.Store.{Store, size_of}
use Rattle.machine_state.specs.State.{State}
use Rattle.confinement.specs.Cut.{Cut, IsClosed, side_of, MayHold}
use Rattle.confine_check.specs.declared.verdict.Breach.{Breach}
use Rattle.object_store.specs.Places.{cap_in, places_in}
use Rattle.confine_check.specs.Breach.{breach_by, breach_in, breach_with, broken_by, first_from, found_by, may_hold, sleeper_of}
use Rattle.confine_check.specs.Found.{IsFirstBreach, meant_of, meant_of_kind, meant_of_object, rank_of, verdict_in}
use Rattle.confine_check.proofs.Decided.{may_hold-passes, may_hold-says, none_each}
use Rattle.confine_check.proofs.First.{first_zero, first_suc}

-- ---- the first of several

module _ {A : Type 0} (f : ℕ → Option A) where
  -- answer `at`, of `n` from number `i` on, is the first that gives something
  record GivesFirst (i n : ℕ) (x : A) : Type 0 where
    at : ℕ
    low : i ≤ at
    high : at < i + n
    gives : f at ≡ Some x
    before : (j : ℕ) → i ≤ j → j < at → f j ≡ None

  gives_first : (n i : ℕ) (x : A) → first_from f i n ≡ Some x → GivesFirst i n x
  gives_first zero i x e = let h = sym (first_zero f i) ∙ e in absurd (cc (h))
  gives_first (suc n) i x e = by (f i) refl (sym (first_suc f i n) ∙ e) (gives_first n (suc i) x)
    where
      later : f i ≡ None → GivesFirst (suc i) n x → GivesFirst i (suc n) x
      later none g =
          let low = g.low in
          let high = g.high in
          record {
            at = g.at;
            low = omega (arith, low);
            high = omega (arith, high);
            gives = g.gives;
            before = λ j from to. elim (cases_lt i j) [
              | inl above ↦ g.before j (omega (arith, above)) to
              | inr here ↦ let same : i ≡ j = omega (arith, from, here) in subst (λ k. f k ≡ None) same none
            ];
          }

      by : (o : Option A) → f i ≡ o → option_or o (first_from f (suc i) n) ≡ Some x → (first_from f (suc i) n ≡ Some x → GivesFirst (suc i) n x) → GivesFirst i (suc n) x
      by None is e rest = later is (rest e)
      by (Some y) is e rest = record { at = i; low = omega arith; high = omega arith; gives = is ∙ e; before = λ j from to. absurd (omega (arith, from, to)) }

-- one of two gives it: the first, or the second where the first gives nothing
or_gives : {A : Type 0} (x y : Option A) (a : A) → option_or x y ≡ Some a → (x ≡ Some a) ⊎ ((x ≡ None) × (y ≡ Some a))
or_gives None y a e = inr (refl, e)
or_gives (Some b) y a e = inl e

-- ---- one place

module _ (cut : Cut) (closed : IsClosed cut) (s : Store) where
  abbrev May : CapKind → ℕ → ℕ → Type 0
  May kind n i = MayHold cut (side_of cut kind n) (cap_in s kind n i)

  abbrev at_place : CapKind → ℕ → ℕ → Option Breach
  at_place kind n i = breach_by cut kind n i (cap_in s kind n i)

  -- nothing is broken there: it may be held
  place-may : (kind : CapKind) (n i : ℕ) → at_place kind n i ≡ None → May kind n i
  place-may kind n i e = may_hold-says cut (side_of cut kind n) (cap_in s kind n i) (on (may_hold cut (side_of cut kind n) (cap_in s kind n i)) e)
    where
      on : (b : Bool) → (if b then None else Some (breach_with kind n i (cap_in s kind n i))) ≡ None → b ≡ true
      on true e = refl
      on false e = absurd (cc (e))

  -- or the capability is told that stands there, and it may not be held
  place-not : (kind : CapKind) (n i : ℕ) (found : Breach) → at_place kind n i ≡ Some found → (found ≡ breach_with kind n i (cap_in s kind n i)) × (¬ (May kind n i))
  place-not kind n i found e = on (may_hold cut (side_of cut kind n) (cap_in s kind n i)) refl e
    where
      on : (b : Bool) → may_hold cut (side_of cut kind n) (cap_in s kind n i) ≡ b → (if b then None else Some (breach_with kind n i (cap_in s kind n i))) ≡ Some found
          → (found ≡ breach_with kind n i (cap_in s kind n i)) × (¬ (May kind n i))
      on true is e = absurd (cc (e))
      on false is e = (cc, λ may. let bad = sym (may_hold-passes cut (side_of cut kind n) (cap_in s kind n i) closed may) ∙ is in cc)

  -- ---- the objects of a kind

  -- all of them may hold what they do
  abbrev AllMay : CapKind → Type 0
  AllMay kind = (n i : ℕ) → n < size_of s.items kind → i < places_in kind → May kind n i

  object-may : (kind : CapKind) (n : ℕ) → meant_of_object cut s kind n ≡ None → (i : ℕ) → i < places_in kind → May kind n i
  object-may kind n e i place = place-may kind n i (none_each (at_place kind n) (places_in kind) 0 i e (omega arith) (omega (arith, place)))

  kind-may : (kind : CapKind) → meant_of_kind cut s kind ≡ None → AllMay kind
  kind-may kind e n i there place =
      object-may kind n (none_each (meant_of_object cut s kind) (size_of s.items kind) 0 n e (omega arith) (omega (arith, there))) i place

  -- this is the first of them that may not
  record IsFirstOf (kind : CapKind) (found : Breach) : Type 0 where
    object : found.number < size_of s.items kind
    place : found.place < places_in kind
    is : found ≡ breach_with kind found.number found.place (cap_in s kind found.number found.place)
    breaks : ¬ (May kind found.number found.place)
    objects : (n i : ℕ) → n < found.number → i < places_in kind → May kind n i
    places : (i : ℕ) → i < found.place → May kind found.number i

  kind-first : (kind : CapKind) (found : Breach) → meant_of_kind cut s kind ≡ Some found → IsFirstOf kind found
  kind-first kind found e =
      let outer = gives_first (meant_of_object cut s kind) (size_of s.items kind) 0 found e in
      let inner = gives_first (at_place kind outer.at) (places_in kind) 0 found outer.gives in
      let not = place-not kind outer.at inner.at found inner.gives in
      subst (IsFirstOf kind) (sym not.0) (record {
        object = let high = outer.high in omega (arith, high);
        place = let high = inner.high in omega (arith, high);
        is = refl;
        breaks = not.1;
        objects = λ n i below place. object-may kind n (outer.before n (omega arith) below) i place;
        places = λ i below. place-may kind outer.at i (inner.before i (omega arith) below);
      })

  -- ---- all kinds

  -- what is first in its kind is first of all, where all may that are printed before
  all-first : (kind : CapKind) (found : Breach) → IsFirstOf kind found → ((k : CapKind) → rank_of k < rank_of kind → AllMay k) → IsFirstBreach cut s found
  all-first kind found first earlier =
      let of_kind : found.kind ≡ kind = ap (λ (b : Breach). b.kind) first.is in
      let stands : found.cap ≡ cap_in s kind found.number found.place = ap (λ (b : Breach). b.cap) first.is in
      record {
        object = subst (λ k. found.number < size_of s.items k) (sym of_kind) first.object;
        place = subst (λ k. found.place < places_in k) (sym of_kind) first.place;
        cap = stands ∙ ap (λ k. cap_in s k found.number found.place) (sym of_kind);
        breaks = λ may. first.breaks (subst (λ k. MayHold cut (side_of cut k found.number) (cap_in s kind found.number found.place)) of_kind (subst (MayHold cut (side_of cut found.kind found.number)) stands may));
        before = λ k n i there place is. elim is [
          | inl below ↦ earlier k (subst (λ j. rank_of k < rank_of j) of_kind below) n i there place
          | inr same ↦ in_kind k n i place (same.0 ∙ of_kind) same.1
        ];
      }
    where
      in_object : (n i : ℕ) → i < places_in kind → (n < found.number) ⊎ ((n ≡ found.number) × (i < found.place)) → May kind n i
      in_object n i place (inl object) = first.objects n i object place
      in_object n i place (inr same) = subst (λ m. May kind m i) (sym same.0) (first.places i same.1)

      in_kind : (k : CapKind) (n i : ℕ) → i < places_in k → k ≡ kind → (n < found.number) ⊎ ((n ≡ found.number) × (i < found.place)) → May k n i
      in_kind k n i place same is = subst (λ j. May j n i) (sym same) (in_object n i (subst (λ j. i < places_in j) same place) is)

  -- the kinds that are printed before
  before-cappages : (k : CapKind) → rank_of k < 0 → AllMay k
  before-cappages k lt = absurd (omega (arith, lt))

  before-gpts : AllMay CapPage → (k : CapKind) → rank_of k < 1 → AllMay k
  before-gpts pages CapPage lt = pages
  before-gpts pages Gpt lt = absurd (omega (arith, lt))
  before-gpts pages Endpoint lt = absurd (omega (arith, lt))
  before-gpts pages _ lt = absurd (omega (arith, lt))

  before-endpoints : AllMay CapPage → AllMay Gpt → (k : CapKind) → rank_of k < 2 → AllMay k
  before-endpoints pages gpts CapPage lt = pages
  before-endpoints pages gpts Gpt lt = gpts
  before-endpoints pages gpts Endpoint lt = absurd (omega (arith, lt))
  before-endpoints pages gpts _ lt = absurd (omega (arith, lt))

  before-processes : AllMay CapPage → AllMay Gpt → AllMay Endpoint → (k : CapKind) → rank_of k < 3 → AllMay k
  before-processes pages gpts endpoints CapPage lt = pages
  before-processes pages gpts endpoints Gpt lt = gpts
  before-processes pages gpts endpoints Endpoint lt = endpoints
  before-processes pages gpts endpoints _ lt = absurd (omega (arith, lt))

  -- the first that is found is the first of all
  pub meant-first : (found : Breach) → meant_of cut s ≡ Some found → IsFirstBreach cut s found
  meant-first found e = elim (or_gives (meant_of_kind cut s CapPage) _ found e) [
    | inl here ↦ all-first CapPage found (kind-first CapPage found here) before-cappages
    | inr later ↦ gpts-first (kind-may CapPage later.0) later.1
  ]
    where
      processes-first : AllMay CapPage → AllMay Gpt → AllMay Endpoint → meant_of_kind cut s Process ≡ Some found → IsFirstBreach cut s found
      processes-first pages gpts endpoints e = all-first Process found (kind-first Process found e) (before-processes pages gpts endpoints)

      endpoints-first : AllMay CapPage → AllMay Gpt → option_or (meant_of_kind cut s Endpoint) (meant_of_kind cut s Process) ≡ Some found → IsFirstBreach cut s found
      endpoints-first pages gpts e = elim (or_gives (meant_of_kind cut s Endpoint) (meant_of_kind cut s Process) found e) [
        | inl here ↦ all-first Endpoint found (kind-first Endpoint found here) (before-endpoints pages gpts)
        | inr later ↦ processes-first pages gpts (kind-may Endpoint later.0) later.1
      ]

      gpts-first : AllMay CapPage → option_or (meant_of_kind cut s Gpt) (option_or (meant_of_kind cut s Endpoint) (meant_of_kind cut s Process)) ≡ Some found → IsFirstBreach cut s found
      gpts-first pages e = elim (or_gives (meant_of_kind cut s Gpt) _ found e) [
        | inl here ↦ all-first Gpt found (kind-first Gpt found here) (before-gpts pages)
        | inr later ↦ endpoints-first pages (kind-may Gpt later.0) later.1
      ]

-- a capability that is told of a state is the first that breaks the cut
pub verdict_in-first : (cut : Cut) → IsClosed cut → (s : State) (found : Breach) → verdict_in cut s ≡ broken_by found → IsFirstBreach cut s.store found
verdict_in-first cut closed s found e = meant-first cut closed s.store found (by (meant_of cut s.store) (sleeper_of cut s.queues) e)
  where
    by : (o : Option Breach) (p : Option ℕ) → found_by o p ≡ broken_by found → o ≡ Some found
    by (Some other) p e = ap breach_in e
    by None (Some p) e = absurd (cc (e))
    by None None e = absurd (cc (e))
