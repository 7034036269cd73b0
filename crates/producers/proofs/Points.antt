-- Walks that come to a point: made and taken apart.
use Rattle.std.proofs.Common.{◌≡◌, ◌⊎◌, inl, inr, ℕ, zero, suc, ◌≤◌, Bool, true, false, ◌&&◌, if◌then◌else◌, nat_le, List, [], ◌∷◌, ◌++◌, Option, Some, None, refl, sym, ap, subst, ◌∙◌, append_assoc, append-nil, arith}
use Rattle.std.specs.Option.{option_or}
use Rattle.std.proofs.Math.Nat.{le_refl, le_trans}
use Rattle.std.proofs.lemmas.Bool.Decides.{nat_tests}
use Rattle.cap_format.specs.Capability.{Capability}
use Rattle.cap_format.specs.declared.kind.CapKind.{CapKind}
use Rattle.cap_format.specs.declared.kind.CapKind.TheVariants.{Gpt}
use Rattle.cap_format.specs.declared.item.Item.TheVariants.{Slot}
use Rattle.guard_math.specs.Pass.{passes}
use Rattle.object_store.specs.Store.{Items, slot_at}
use Rattle.walk_meaning.specs.declared.at.At.{At}
use Rattle.walk_meaning.specs.declared.kind.Kind.{Kind}
use Rattle.walk_meaning.specs.declared.noted.Noted.{Noted}
use Rattle.walk_meaning.specs.declared.place.Place.{Place}
use Rattle.walk_meaning.specs.declared.step.Step.{Step}
use Rattle.walk_meaning.specs.declared.step.Step.TheVariants.{Reach, Fault, Go}
use Rattle.walk_meaning.specs.Walk.{past, step, walk}
use Rattle.walk_meaning.specs.Trail.{header_noted, noted, trail_from}
use Rattle.walk_meaning.specs.After.{walk_after, trail_after}
use Rattle.walk_meaning.proofs.Walked.{walk-suc, trail_from-suc}
use Rattle.walk_meaning.proofs.Along.{goes_shrinks}
use Rattle.producers.specs.declared.producer.Produced.{Produced}
use Rattle.producers.specs.Producer.{Point, here, is_gpt, joins, last_join, point, produced_by}
use Rattle.producers.specs.Meets.{GoesOn, IsHere, Meets, PassesAt}

module _ (o : Items) (kind : Kind) (a : ℕ) (p : Point) where
  -- what a walk that comes to the point does first
  abbrev pub Onward : ℕ → Capability → At → List Noted → Type 0
  Onward n c w reads = IsHere n c w p reads ⊎ GoesOn o kind a c w reads (λ d v rest. Meets o kind a n d v p rest)

  pub Meets-suc : (n : ℕ) (c : Capability) (w : At) (reads : List Noted) → Meets o kind a (suc n) c w p reads → Onward n c w reads
  unfolding Meets
  Meets-suc n c w reads meets = meets

  pub Meets-first : (n : ℕ) (c : Capability) (w : At) (reads : List Noted) → Onward n c w reads → Meets o kind a (suc n) c w p reads
  unfolding Meets
  Meets-first n c w reads onward = onward

  pub Meets-zero : (c : Capability) (w : At) (reads : List Noted) → Meets o kind a zero c w p reads → ⊥
  unfolding Meets
  Meets-zero c w reads meets = meets

-- ---- the last point is one to which the walk comes

module _ (o : Items) (kind : Kind) (a : ℕ) where
  -- what the last point is after a step
  abbrev join_after : ℕ → Capability → At → List Noted → Step → Option Point
  join_after n c w reads (Reach place) = None
  join_after n c w reads (Fault code handler) = None
  join_after n c w reads (Go next g i) =
      option_or (last_join o kind a n (slot_at o g i) next ((reads ++ header_noted c a w.l2) ++ noted (Slot g i) a next.l2 ∷ [])) (here n c w reads)

  pub last_join-suc : (n : ℕ) (c : Capability) (w : At) (reads : List Noted) → last_join o kind a (suc n) c w reads ≡ join_after n c w reads (step o kind c w)
  unfolding last_join
  last_join-suc n c w reads = on (step o kind c w)
    where
      on : (s : Step) → ◌≡◌ {A = Option Point} (elim s [
        | Reach place ↦ None
        | Fault code handler ↦ None
        | Go next g i ↦ option_or (last_join o kind a n (slot_at o g i) next ((reads ++ header_noted c a w.l2) ++ noted (Slot g i) a next.l2 ∷ [])) (here n c w reads)
      ]) (join_after n c w reads s)
      on (Reach place) = refl
      on (Fault code handler) = refl
      on (Go next g i) = refl

  pub last_join-zero : (c : Capability) (w : At) (reads : List Noted) → ◌≡◌ {A = Option Point} (last_join o kind a zero c w reads) None
  unfolding last_join
  last_join-zero c w reads = refl

  -- where the last point lies, behind what was read before
  pub record Lies (n : ℕ) (c : Capability) (w : At) (reads : List Noted) (p : Point) : Type 0 where
    pub rest : List Noted
    pub before : p.before ≡ reads ++ rest
    pub met : Meets o kind a n c w p rest
    pub joins_there : joins p.cap p.at ≡ true

  here_tells : (n : ℕ) (c : Capability) (w : At) (reads : List Noted) (p : Point) → here n c w reads ≡ Some p → (joins c w ≡ true) × (point n c w reads ≡ p)
  here_tells n c w reads p e = on (joins c w) refl e
    where
      on : (b : Bool) → joins c w ≡ b → (if b then Some (point n c w reads) else None) ≡ Some p → (joins c w ≡ true) × (point n c w reads ≡ p)
      on true is e = (is, cc)
      on false is e = absurd (cc)

  or_tells : (x y : Option Point) (p : Point) → option_or x y ≡ Some p → (x ≡ Some p) ⊎ (y ≡ Some p)
  or_tells None y p e = inr e
  or_tells (Some q) y p e = inl e

  pub last_lies : (n : ℕ) (c : Capability) (w : At) (reads : List Noted) (p : Point) → last_join o kind a n c w reads ≡ Some p → Lies n c w reads p
  last_lies zero c w reads p e = absurd (let none = last_join-zero c w reads in cc)
  last_lies (suc n) c w reads p e = after (step o kind c w) refl (sym (last_join-suc n c w reads) ∙ e) (last_lies n)
    where
      at_once : point n c w reads ≡ p → joins c w ≡ true → Lies (suc n) c w reads p
      at_once same is = record {
        rest = [];
        before = sym (ap (λ (q : Point). q.before) same) ∙ sym (append-nil reads);
        met = Meets-first o kind a p n c w [] (inl (record {
          left = sym (ap (λ (q : Point). q.left) same);
          cap = sym (ap (λ (q : Point). q.cap) same);
          at = sym (ap (λ (q : Point). q.at) same);
          none = refl;
        }));
        joins_there = ap (λ (q : Point). joins q.cap q.at) (sym same) ∙ is;
      }

      further : (next : At) (g i : ℕ) → step o kind c w ≡ Go next g i
          → Lies n (slot_at o g i) next ((reads ++ header_noted c a w.l2) ++ noted (Slot g i) a next.l2 ∷ []) p → Lies (suc n) c w reads p
      further next g i steps lies =
          let head : List Noted = header_noted c a w.l2 in
          let one : Noted = noted (Slot g i) a next.l2 in
          record {
            rest = head ++ one ∷ lies.rest;
            before = lies.before ∙ (append_assoc (reads ++ head) (one ∷ []) lies.rest ∙ append_assoc reads head (one ∷ lies.rest));
            met = Meets-first o kind a p n c w (head ++ one ∷ lies.rest) (inr (record {
              next = next;
              gpt = g;
              slot = i;
              rest = lies.rest;
              steps = steps;
              reads_are = refl;
              further = lies.met;
            }));
            joins_there = lies.joins_there;
          }

      after : (s : Step) → step o kind c w ≡ s → join_after n c w reads s ≡ Some p
          → ((d : Capability) (v : At) (made : List Noted) (q : Point) → last_join o kind a n d v made ≡ Some q → Lies n d v made q) → Lies (suc n) c w reads p
      after (Reach place) steps e ih = absurd (cc (e))
      after (Fault code handler) steps e ih = absurd (cc (e))
      after (Go next g i) steps e ih =
          elim (or_tells (last_join o kind a n (slot_at o g i) next ((reads ++ header_noted c a w.l2) ++ noted (Slot g i) a next.l2 ∷ [])) (here n c w reads) p e) [
            | inl later ↦ further next g i steps (ih (slot_at o g i) next ((reads ++ header_noted c a w.l2) ++ noted (Slot g i) a next.l2 ∷ []) p later)
            | inr now ↦ let tells = here_tells n c w reads p now in at_once tells.1 tells.0
          ]

-- ---- the last point, step by step

module _ (o : Items) (kind : Kind) (a : ℕ) where
  -- a walk that reaches here joins no other behind
  pub join-ends : (n k : ℕ) (c : Capability) (w : At) (reads : List Noted) (place : Place) → n ≡ suc k → step o kind c w ≡ Reach place → last_join o kind a n c w reads ≡ None
  join-ends n k c w reads place fewer steps =
      ap (λ (m : ℕ). last_join o kind a m c w reads) fewer ∙ (last_join-suc o kind a k c w reads ∙ ap (λ (s : Step). join_after o kind a k c w reads s) steps)

  -- one that goes on joins others later, or here
  pub join-goes : (n k : ℕ) (c : Capability) (w : At) (reads : List Noted) (next : At) (g i : ℕ) → n ≡ suc k → step o kind c w ≡ Go next g i
      → last_join o kind a n c w reads
      ≡ option_or (last_join o kind a k (slot_at o g i) next ((reads ++ header_noted c a w.l2) ++ noted (Slot g i) a next.l2 ∷ [])) (here k c w reads)
  join-goes n k c w reads next g i fewer steps =
      ap (λ (m : ℕ). last_join o kind a m c w reads) fewer ∙ (last_join-suc o kind a k c w reads ∙ ap (λ (s : Step). join_after o kind a k c w reads s) steps)

  -- where no capability may be met any more, none joins
  pub join-unread : (n : ℕ) (c d : Capability) (w : At) (reads : List Noted) → n ≡ zero → last_join o kind a n c w reads ≡ last_join o kind a n d w reads
  join-unread n c d w reads none =
      ap (λ (m : ℕ). last_join o kind a m c w reads) none
      ∙ (last_join-zero o kind a c w reads ∙ (sym (last_join-zero o kind a d w reads) ∙ sym (ap (λ (m : ℕ). last_join o kind a m d w reads) none)))

-- the later of points, and then an earlier producer
pub or-produced : (o : Items) (x y : Option Point) (z : Option Produced)
    → option_or (produced_by o (option_or x y)) z ≡ option_or (produced_by o x) (option_or (produced_by o y) z)
or-produced o None y z = refl
or-produced o (Some p) y z = refl

-- ---- the walk from the point on is the rest of the walk

-- what a walk that comes to a point has of the walk from there
pub record Rests (o : Items) (kind : Kind) (a n : ℕ) (c : Capability) (w : At) (p : Point) (reads : List Noted) : Type 0 where
  pub place : walk o kind n c w ≡ walk o kind (suc p.left) p.cap p.at
  pub reads_are : trail_from o kind a n c w ≡ reads ++ trail_from o kind a (suc p.left) p.cap p.at

module _ (o : Items) (kind : Kind) (a : ℕ) (p : Point) where
  pub meets-rests : (n : ℕ) (c : Capability) (w : At) (reads : List Noted) → Meets o kind a n c w p reads → Rests o kind a n c w p reads
  meets-rests zero c w reads meets = absurd (Meets-zero o kind a p c w reads meets)
  meets-rests (suc n) c w reads meets = on (Meets-suc o kind a p n c w reads meets) (meets-rests n)
    where
      on : Onward o kind a p n c w reads → ((d : Capability) (v : At) (rest : List Noted) → Meets o kind a n d v p rest → Rests o kind a n d v p rest) → Rests o kind a (suc n) c w p reads
      on (inl is) ih = record {
        place = rw (is.left, is.cap, is.at) refl;
        reads_are = rw (is.left, is.cap, is.at, is.none) refl;
      }
      on (inr goes) ih =
          let rests = ih (slot_at o goes.gpt goes.slot) goes.next goes.rest goes.further in
          let head : List Noted = header_noted c a w.l2 in
          let one : Noted = noted (Slot goes.gpt goes.slot) a goes.next.l2 in
          let tail : List Noted = trail_from o kind a (suc p.left) p.cap p.at in
          record {
            place = walk-suc o kind n c w ∙ (ap (λ (s : Step). walk_after o kind n s) goes.steps ∙ rests.place);
            reads_are =
                trail_from-suc o kind a n c w
                ∙ (ap (λ (s : Step). head ++ trail_after o kind a n s) goes.steps
                ∙ (ap (λ (t : List Noted). head ++ one ∷ t) rests.reads_are
                ∙ (sym (append_assoc head (one ∷ goes.rest) tail) ∙ ap (λ (t : List Noted). t ++ tail) (sym goes.reads_are))));
          }

  -- a walk never passes a larger size later
  pub meets-shrinks : (n : ℕ) (c : Capability) (w : At) (reads : List Noted) → Meets o kind a n c w p reads → p.at.l2 ≤ w.l2
  meets-shrinks zero c w reads meets = absurd (Meets-zero o kind a p c w reads meets)
  meets-shrinks (suc n) c w reads meets = on (Meets-suc o kind a p n c w reads meets) (meets-shrinks n)
    where
      on : Onward o kind a p n c w reads → ((d : Capability) (v : At) (rest : List Noted) → Meets o kind a n d v p rest → p.at.l2 ≤ v.l2) → p.at.l2 ≤ w.l2
      on (inl is) ih = subst (λ (v : At). p.at.l2 ≤ v.l2) is.at (le_refl p.at.l2)
      on (inr goes) ih = le_trans (ih (slot_at o goes.gpt goes.slot) goes.next goes.rest goes.further) (goes_shrinks o kind c w goes.next goes.gpt goes.slot goes.steps)

-- a GPT's capability that joins is passed
pub passes_at : (p : Point) → joins p.cap p.at ≡ true → PassesAt p
passes_at p is = record { kind = kind_is p.cap.kind parts.0; wide = at_least (past p.cap p.at).l2 others.1; passed = rw (kind_is p.cap.kind parts.0) others.0 }
  where
    both : (x y : Bool) → (x && y) ≡ true → (x ≡ true) × (y ≡ true)
    both true y e = (refl, e)
    both false y e = absurd (cc)

    kind_is : (k : CapKind) → is_gpt k ≡ true → k ≡ Gpt
    kind_is Gpt e = refl
    kind_is _ e = absurd (cc)

    at_least : (l : ℕ) → nat_le 22 l ≡ true → 22 ≤ l
    at_least l e = grind (arith, nat_tests)

    parts : (is_gpt p.cap.kind ≡ true) × ((passes p.cap.guard p.at.address && nat_le 22 (past p.cap p.at).l2) ≡ true)
    parts = both (is_gpt p.cap.kind) (passes p.cap.guard p.at.address && nat_le 22 (past p.cap p.at).l2) is

    others : (passes p.cap.guard p.at.address ≡ true) × (nat_le 22 (past p.cap p.at).l2 ≡ true)
    others = both (passes p.cap.guard p.at.address) (nat_le 22 (past p.cap p.at).l2) parts.1
