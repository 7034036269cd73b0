-- The proof that a step from GPTs below some number leads to such, and that sizes stay those of blocks.
use Rattle.std.specs.Prelude.{◌≡◌, ℕ, ◌<◌, ◌≤◌, min, Bool, true, false, not, if◌then◌else◌, ◌&&◌, ◌||◌, nat_lt, Option, Some}
use Rattle.std.proofs.Common.{ap, subst, inl, inr, arith}
use Rattle.std.proofs.Math.Nat.{le_trans, min-le_left, le-min}
use Rattle.std.proofs.lemmas.Bool.{lt-ltb, cases_lt}
use Rattle.cap_format.specs.Capability.{Capability, IsCapability}
use Rattle.cap_format.specs.Restr.{has}
use Rattle.cap_format.specs.declared.kind.CapKind.TheVariants.{Gpt}
use Rattle.gpt_objects.specs.Header.{IsHeader}
use Rattle.object_store.specs.Store.{Items, header_at}
use Rattle.walk_meaning.specs.declared.at.At.{At}
use Rattle.walk_meaning.specs.declared.kind.Kind.{Kind}
use Rattle.walk_meaning.specs.declared.step.Step.{Step}
use Rattle.walk_meaning.specs.declared.step.Step.TheVariants.{Reach, Fault, Go}
use Rattle.walk_meaning.specs.Walk.{is_reserved, past, step}
use Rattle.walk_meaning.proofs.Ways.{Way, gone}
use Rattle.walk_meaning.proofs.Ways.Way.{BySlot, ByWindow, ByLocal}
use Rattle.walk_meaning.proofs.Ends.{HandledBy, handled}
use Rattle.walk_meaning.specs.Bounds.{Below, IsAt, GoesBelow}

-- a choice of two GPTs below n
below-if : (n : ℕ) (b : Bool) (g h : Option ℕ) → Below n g → Below n h → Below n (if b then g else h)
below-if n true g h p q = p
below-if n false g h p q = q

module _ (n : ℕ) (o : Items) (headers : (g : ℕ) → IsHeader (header_at o g)) (c : Capability) (is : IsCapability c) (there : c.kind ≡ Gpt → c.object < n) (w : At) (at : IsAt n w) where
  -- an index that is not over 15 is below 16
  index_below : (i : ℕ) (r : Bool) → (nat_lt 15 i || r) ≡ false → i < 16
  index_below i r free = elim (cases_lt 15 i) [
    | inl over ↦ let t : (nat_lt 15 i || r) ≡ true = ap (λ (b : Bool). b || r) (lt-ltb 15 i over) in absurd (cc (t, free))
    | inr under ↦ omega arith
  ]

  way_below : (next : At) (g i : ℕ) → Way o c (past c w) next g i → GoesBelow n (Go next g i)
  way_below next g i (BySlot k object index free into) =
      let h = header_at o c.object in
      let P : At → Type 0 = λ t. GoesBelow n (Go t g i) in
      let own : c.object < n = there k in
      let low : 12 ≤ min (min w.l2 c.guard.l2g) h.l2v = le-min (le-min at.low is.guard.low) (headers c.object).low in
      let high : min (min w.l2 c.guard.l2g) h.l2v ≤ 32 = le_trans (min-le_left (min w.l2 c.guard.l2g) h.l2v) (le_trans (min-le_left w.l2 c.guard.l2g) at.high) in
      subst P into (
        record {
          holding = own;
          background = below-if n h.bg (Some c.object) w.background own at.background;
          handler = below-if n (h.ha && not (has (past c w).restr.0 16)) (Some c.object) w.handler own at.handler;
          low = low;
          high = high;
        },
        (rw (← object) own),
        index_below i (is_reserved h i) free,
      )
  way_below next g i (ByWindow k back index through) =
      let P : At → Type 0 = λ t. GoesBelow n (Go t g i) in
      let own : g < n = rw back at at.background in
      subst P through (
        record {
          holding = own;
          background = at.background;
          handler = at.handler;
          low = le-min at.low is.guard.low;
          high = le_trans (min-le_left w.l2 c.guard.l2g) at.high;
        },
        own,
        omega arith,
      )
  way_below next g i (ByLocal k hold index free through) =
      let P : At → Type 0 = λ t. GoesBelow n (Go t g i) in
      let own : g < n = rw hold at at.holding in
      let slot : c.slot < 16 = rw k at is.slot in
      subst P through (
        record {
          holding = own;
          background = at.background;
          handler = at.handler;
          low = le-min at.low is.guard.low;
          high = le_trans (min-le_left w.l2 c.guard.l2g) at.high;
        },
        own,
        omega arith,
      )

  fault_below : (h : Option ℕ) → HandledBy o c w h → Below n h
  fault_below h (inl so_far) = subst (Below n) so_far at.handler
  fault_below h (inr own) =
      let header = header_at o c.object in
      subst (Below n) own.1 (below-if n (header.ha && not (has (past c w).restr.0 16)) (Some c.object) w.handler (there own.0) at.handler)

  -- a step from GPTs below n leads to such
  pub goes_below : (kind : Kind) (s : Step) → step o kind c w ≡ s → GoesBelow n s
  goes_below kind (Reach place) e = tt
  goes_below kind (Fault code handler) e = fault_below handler (handled o kind code handler c w e)
  goes_below kind (Go next g i) e = way_below next g i (gone o next g i c kind w e).way
