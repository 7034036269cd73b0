-- Where processes of the other side stand: what a process of this side does leaves their order in the ready queues, and the
-- harts that they are on.
use Rattle.std.proofs.Common.{◌≡◌, ◌≢◌, ℕ, ◌<◌, zero, suc, inl, inr, Bool, true, false, ◌==◌, not, cond, if◌then◌else◌, List, [], ◌∷◌, ◌++◌, map, length, slice_index_or, Option, Some, None, refl, sym, ◌∙◌, ap, arith, eqb-true, length-set, append-nil, append_assoc}
use Rattle.std.proofs.Math.ListN.{get_or-map}
use Rattle.std.proofs.lemmas.List.{get_or-set_same}
use Rattle.cap_format.specs.declared.kind.CapKind.{CapKind}
use Rattle.cap_format.specs.declared.kind.CapKind.TheVariants.{Process, Schedule}
use Rattle.object_store.proofs.Lists.{get_or-set}
use Rattle.schedules.specs.Queues.{QueuesValue, priorities, ready_queue, first_of, rest_of, without, hart_without, left, highest_below, taken_from, dispatched_by, dispatched, hart_of}
use Rattle.schedules.specs.Ready.{readied_queues}
use Rattle.confinement.specs.declared.cut_side.CutSide.{CutSide}
use Rattle.confinement.specs.Cut.{Cut, side_of, same_side}
use Rattle.operations.specs.System.{System}
use Rattle.confinement.specs.Acts.{others_in, other_on, SparesPlaces, Met, AllMet, Joins}
use Rattle.confinement.proofs.Sides.{same_side-true, same_side-false}
use Rattle.confinement.proofs.Sleeping.{each_set}

-- ---- harts

-- a function of each hart's process leaves the number of harts
length-map_harts : (f : Option ℕ → Option ℕ) (hs : List (Option ℕ)) → length (map f hs) ≡ length hs
length-map_harts f [] = refl
length-map_harts f (h ∷ hs) = ap suc (length-map_harts f hs)

taken-size : (q : QueuesValue) (hart : ℕ) (next : Option ℕ) → length q.harts ≡ length (taken_from q hart next).harts
taken-size q hart None = refl
taken-size q hart (Some priority) = sym (length-set q.harts hart (first_of (ready_queue q priority)))

-- there are as many harts where one takes a process
pub harts-dispatched : (q : QueuesValue) (hart : ℕ) → length q.harts ≡ length (dispatched q hart).harts
harts-dispatched q hart = by (hart_of q hart)
  where
    by : (on : Option ℕ) → length q.harts ≡ length (dispatched_by q hart on).harts
    by None = taken-size q hart (highest_below q.ready priorities)
    by (Some p) = refl

-- ---- a hart that finds nobody

-- the queue found is not empty
found-first : (ready : List (List ℕ)) (n k : ℕ) → highest_below ready n ≡ Some k → first_of (slice_index_or ready k []) ≢ None
unfolding highest_below
found-first ready zero k is none = cc (is)
found-first ready (suc n) k is none = on (slice_index_or ready n []) refl (found-first ready n k) is
  where
    here : (p : ℕ) (ps : List ℕ) → slice_index_or ready n [] ≡ p ∷ ps → Some n ≡ Some k → ⊥
    here p ps e found =
        let same : n ≡ k = cc (found) in
        let first : first_of (slice_index_or ready k []) ≡ Some p = ap (λ (m : ℕ). first_of (slice_index_or ready m [])) (sym same) ∙ ap first_of e in
        let some : Some p ≡ None = sym first ∙ none in cc (some)

    on : (ps : List ℕ) → slice_index_or ready n [] ≡ ps → (highest_below ready n ≡ Some k → first_of (slice_index_or ready k []) ≢ None)
        → (if length ps == 0 then highest_below ready n else Some n) ≡ Some k → ⊥
    on [] e rest found = rest found none
    on (p ∷ ps) e rest found = by (suc (length ps) == 0) refl found
      where
        by : (b : Bool) → (suc (length ps) == 0) ≡ b → (if b then highest_below ready n else Some n) ≡ Some k → ⊥
        by true empty found = let zero_is = eqb-true (suc (length ps)) 0 empty in absurd (omega (arith, zero_is))
        by false empty found = here p ps e found

-- where a hart that there is has nobody and finds nobody, all stand where they stood
pub dispatched-none : (q : QueuesValue) (hart : ℕ) → hart < length q.harts → hart_of (dispatched q hart) hart ≡ None → dispatched q hart ≡ q
dispatched-none q hart there none = on (hart_of q hart) none
  where
    taken : (next : Option ℕ) → highest_below q.ready priorities ≡ next → hart_of (taken_from q hart next) hart ≡ None → taken_from q hart next ≡ q
    taken None found none = refl
    taken (Some k) found none =
        absurd (found-first q.ready 8 k found (sym (get_or-set_same q.harts hart (first_of (ready_queue q k)) None there) ∙ none))

    on : (h : Option ℕ) → hart_of (dispatched_by q hart h) hart ≡ None → dispatched_by q hart h ≡ q
    on None none = taken (highest_below q.ready priorities) refl none
    on (Some p) none = refl

-- ---- one of this side

module _ (cut : Cut) (side : CutSide) where
  is-own : (p : ℕ) → side_of cut Process p ≡ side → same_side (side_of cut Process p) side ≡ true
  is-own p own = same_side-true (side_of cut Process p) side own

  -- he is not among the others, in front
  others-first : (p : ℕ) (ps : List ℕ) → side_of cut Process p ≡ side → others_in cut side (p ∷ ps) ≡ others_in cut side ps
  others-first p ps own = ap (λ (b : Bool). cond (not b) (p ∷ others_in cut side ps) (others_in cut side ps)) (is-own p own)

  -- and at the end
  pub others-last : (p : ℕ) (ps : List ℕ) → side_of cut Process p ≡ side → others_in cut side ps ≡ others_in cut side (ps ++ p ∷ [])
  others-last p [] own = sym (others-first p [] own)
  others-last p (x ∷ xs) own = ap (λ (ys : List ℕ). cond (not (same_side (side_of cut Process x) side)) (x ∷ ys) ys) (others-last p xs own)

  -- they stay where he leaves
  pub others-without : (p : ℕ) (ps : List ℕ) → side_of cut Process p ≡ side → others_in cut side ps ≡ others_in cut side (without p ps)
  others-without p [] own = refl
  others-without p (x ∷ xs) own = by (x == p) refl (others-without p xs own)
    where
      by : (b : Bool) → (x == p) ≡ b → others_in cut side xs ≡ others_in cut side (without p xs) → others_in cut side (x ∷ xs) ≡ others_in cut side (if b then without p xs else x ∷ without p xs)
      by true e rest = others-first x xs (ap (λ (n : ℕ). side_of cut Process n) (eqb-true x p e) ∙ own) ∙ rest
      by false e rest = ap (λ (ys : List ℕ). cond (not (same_side (side_of cut Process x) side)) (x ∷ ys) ys) rest

  -- he is no other on a hart
  other-own : (p : ℕ) → side_of cut Process p ≡ side → other_on cut side (Some p) ≡ None
  other-own p own = ap (λ (b : Bool). if b then None else Some p) (is-own p own)

  other-without : (p : ℕ) (h : Option ℕ) → side_of cut Process p ≡ side → other_on cut side h ≡ other_on cut side (hart_without p h)
  other-without p None own = refl
  other-without p (Some x) own = by (x == p) refl
    where
      by : (b : Bool) → (x == p) ≡ b → other_on cut side (Some x) ≡ other_on cut side (if b then None else Some x)
      by true e = other-own x (ap (λ (n : ℕ). side_of cut Process n) (eqb-true x p e) ∙ own)
      by false e = refl

  -- ---- the places of the others

  -- nobody moves
  pub places-same : (q : QueuesValue) → SparesPlaces cut side q q
  places-same q = record { ready = λ k. refl; harts = λ h. refl; size = refl }

  -- one thing after another
  pub places-then : (q r u : QueuesValue) → SparesPlaces cut side q r → SparesPlaces cut side r u → SparesPlaces cut side q u
  places-then q r u first second =
      record { ready = λ k. first.ready k ∙ second.ready k; harts = λ h. first.harts h ∙ second.harts h; size = first.size ∙ second.size }

  -- one of this side leaves his place
  pub places-left : (q : QueuesValue) (p : ℕ) → side_of cut Process p ≡ side → SparesPlaces cut side q (left q p)
  places-left q p own = record {
    ready = λ k. others-without p (ready_queue q k) own ∙ ap (others_in cut side) (sym (get_or-map (without p) q.ready k []));
    harts = λ h. other-without p (hart_of q h) own ∙ ap (other_on cut side) (sym (get_or-map (hart_without p) q.harts h None));
    size = sym (length-map_harts (hart_without p) q.harts);
  }

  -- one of this side is made ready
  pub places-readied : (k : CapKind) (priority : ℕ) (q : QueuesValue) (p : ℕ) → side_of cut Process p ≡ side → SparesPlaces cut side q (readied_queues k priority q p)
  places-readied Schedule priority q p own = record {
    ready = each_set (λ j (ps : List ℕ). others_in cut side (ready_queue q j) ≡ others_in cut side ps) q.ready priority (ready_queue q priority ++ p ∷ []) []
        (others-last p (ready_queue q priority) own) (λ j. refl);
    harts = λ h. refl;
    size = refl;
  }
  places-readied _ priority q p own = places-same q

  -- a hart takes one of this side, or has one
  pub places-dispatched : (q : QueuesValue) (hart p : ℕ) → side_of cut Process p ≡ side → hart_of (dispatched q hart) hart ≡ Some p → SparesPlaces cut side q (dispatched q hart)
  places-dispatched q hart p own performs = on (hart_of q hart) refl performs
    where
      rest-own : (ps : List ℕ) → first_of ps ≡ Some p → others_in cut side ps ≡ others_in cut side (rest_of ps)
      rest-own [] e = refl
      rest-own (x ∷ xs) e = let same : x ≡ p = cc (e) in others-first x xs (ap (λ (n : ℕ). side_of cut Process n) same ∙ own)

      given : hart_of q hart ≡ None → (k : ℕ) → hart_of (taken_from q hart (Some k)) hart ≡ Some p → first_of (ready_queue q k) ≡ Some p
      given e k is = elim (get_or-set q.harts hart hart (first_of (ready_queue q k)) None) [
        | inl here ↦ sym here.1 ∙ is
        | inr other ↦ let no = sym is ∙ (other ∙ e) in absurd (cc (no))
      ]

      taken : hart_of q hart ≡ None → (next : Option ℕ) → hart_of (taken_from q hart next) hart ≡ Some p → SparesPlaces cut side q (taken_from q hart next)
      taken e None is = places-same q
      taken e (Some k) is = record {
        ready = each_set (λ j (ps : List ℕ). others_in cut side (ready_queue q j) ≡ others_in cut side ps) q.ready k (rest_of (ready_queue q k)) []
            (rest-own (ready_queue q k) (given e k is)) (λ j. refl);
        harts = each_set (λ j (h : Option ℕ). other_on cut side (hart_of q j) ≡ other_on cut side h) q.harts hart (first_of (ready_queue q k)) None
            (ap (other_on cut side) e ∙ (sym (other-own p own) ∙ ap (other_on cut side) (sym (given e k is)))) (λ j. refl);
        size = taken-size q hart (Some k);
      }

      on : (h : Option ℕ) → hart_of q hart ≡ h → hart_of (dispatched_by q hart h) hart ≡ Some p → SparesPlaces cut side q (dispatched_by q hart h)
      on None e is = taken e (highest_below q.ready priorities) is
      on (Some x) e is = places-same q

-- ---- others that may be made ready

module _ (cut : Cut) (side : CutSide) (base : System) where
  -- nobody joins
  pub joins-none : (ps qs : List ℕ) → ps ≡ qs → Joins cut side base ps qs
  joins-none ps qs same = record { joined = []; order = append-nil ps ∙ same; met = tt }

  all_met-then : (ps qs : List ℕ) → AllMet cut side base ps → AllMet cut side base qs → AllMet cut side base (ps ++ qs)
  all_met-then [] qs first second = second
  all_met-then (p ∷ ps) qs first second = (first.0, all_met-then ps qs first.1 second)

  -- some join after others
  pub joins-then : (ps qs rs : List ℕ) → Joins cut side base ps qs → Joins cut side base qs rs → Joins cut side base ps rs
  joins-then ps qs rs first second = record {
    joined = first.joined ++ second.joined;
    order = sym (append_assoc ps first.joined second.joined) ∙ (ap (λ (xs : List ℕ). xs ++ second.joined) first.order ∙ second.order);
    met = all_met-then first.joined second.joined first.met second.met;
  }

  -- one that isn't of this side joins
  others-joined : (p : ℕ) (ps : List ℕ) → side_of cut Process p ≢ side → others_in cut side ps ++ p ∷ [] ≡ others_in cut side (ps ++ p ∷ [])
  others-joined p [] other = ap (λ (b : Bool). cond (not b) (p ∷ []) []) (sym (same_side-false (side_of cut Process p) side other))
  others-joined p (x ∷ xs) other = by (not (same_side (side_of cut Process x) side)) (others-joined p xs other)
    where
      by : (b : Bool) → others_in cut side xs ++ p ∷ [] ≡ others_in cut side (xs ++ p ∷ [])
          → cond b (x ∷ others_in cut side xs) (others_in cut side xs) ++ p ∷ [] ≡ cond b (x ∷ others_in cut side (xs ++ p ∷ [])) (others_in cut side (xs ++ p ∷ []))
      by true rest = ap (λ (ys : List ℕ). x ∷ ys) rest
      by false rest = rest

  -- one that may be made ready is
  pub ready-readied : (k : CapKind) (priority : ℕ) (q : QueuesValue) (p : ℕ) → side_of cut Process p ≢ side → Met cut side base p → (j : ℕ)
      → Joins cut side base (others_in cut side (ready_queue q j)) (others_in cut side (ready_queue (readied_queues k priority q p) j))
  ready-readied Schedule priority q p other met j =
      each_set (λ j (ps : List ℕ). Joins cut side base (others_in cut side (ready_queue q j)) (others_in cut side ps)) q.ready priority (ready_queue q priority ++ p ∷ []) []
      (record { joined = p ∷ []; order = others-joined p (ready_queue q priority) other; met = (met, tt) }) (λ j. joins-none _ _ refl) j
  ready-readied _ priority q p other met j = joins-none _ _ refl

-- the harts are as they were where one is made ready
pub harts-readied : (k : CapKind) (priority : ℕ) (q : QueuesValue) (p : ℕ) → (readied_queues k priority q p).harts ≡ q.harts
harts-readied Schedule priority q p = refl
harts-readied _ priority q p = refl
