-- Where a walk ends that begins at a capability which this side may hold. Either the walk is weak for good, or the capability
-- that is met may be held by this side, and the holding and the background GPT are of this side. The handler GPT is of
-- this side in any case, since a walk that is weak has met NC.
use Rattle.std.proofs.Common.{◌≡◌, ℕ, zero, suc, ◌⊎◌, inl, inr, Bool, true, false, not, ◌&&◌, if◌then◌else◌, Option, Some, None, Result, refl, sym, ◌∙◌, ap, subst}
use Rattle.std.proofs.lemmas.Bool.{and_parts}
use Rattle.std.specs.Int.RustNames.{bit_or}
use Rattle.cap_format.specs.declared.kind.CapKind.{CapKind}
use Rattle.cap_format.specs.declared.kind.CapKind.TheVariants.{Page, CapPage, Gpt, Entry}
use Rattle.cap_format.specs.Kind.{is_counted, object_kind}
use Rattle.cap_format.specs.Restr.{has}
use Rattle.cap_format.specs.Capability.{Capability}
use Rattle.cap_format.specs.Weakening.{harmless_kind}
use Rattle.gpt_objects.specs.Header.{HeaderValue}
use Rattle.object_store.specs.Store.{Items, header_at, slot_at}
use Rattle.walk_meaning.specs.declared.at.At.{At}
use Rattle.walk_meaning.specs.declared.kind.Kind.{Kind}
use Rattle.walk_meaning.specs.declared.place.Place.{Place}
use Rattle.walk_meaning.specs.declared.place.WalkFault.{WalkFault}
use Rattle.walk_meaning.specs.declared.step.Step.{Step}
use Rattle.walk_meaning.specs.declared.step.Step.TheVariants.{Reach, Fault, Go}
use Rattle.walk_meaning.specs.Walk.{handler_from, into_slot, through_window, reached_place, past, step, handler_of, walk, start_at, access}
use Rattle.walk_meaning.specs.After.{walk_after}
use Rattle.walk_meaning.specs.Laws.{serving}
use Rattle.walk_meaning.proofs.Walked.{walk-zero, walk-suc}
use Rattle.walk_meaning.proofs.Ways.{Way, gone}
use Rattle.walk_meaning.proofs.Ways.Way.{BySlot, ByWindow, ByLocal}
use Rattle.walk_meaning.proofs.Ends.{Serves, Reached, reached, HandledBy, handled}
use Rattle.confinement.specs.declared.cut_side.CutSide.{CutSide}
use Rattle.confinement.specs.Cut.{Cut, side_of, NamesOwn, MayCross, MayCall, MayHold}
use Rattle.confinement.specs.Acts.{MayHoldIf}
use Rattle.confinement.specs.Reach.{ReadsWeakly, Reaches, Ends}
use Rattle.confinement.proofs.Held.{has-left, has-right, is_entry}

module _ (cut : Cut) (side : CutSide) where
  -- there is no such GPT, or it is of this side
  abbrev OnSide : Option ℕ → Type 0
  OnSide None = Unit {0}
  OnSide (Some g) = side_of cut Gpt g ≡ side

  -- RO, WK and NC are among these restrictions, and what is weak may cross
  record Weakly (restr : ℕ) : Type 0 where
    crosses : cut.weakly side ≡ true
    read_only : has restr 1 ≡ true
    weak : has restr 4 ≡ true
    no_call : has restr 16 ≡ true

  -- the capability that is met may be held by this side, on a way through GPTs of this side
  record Inside (c : Capability) (w : At) : Type 0 where
    may : MayHold cut side c
    holding : OnSide w.holding
    background : OnSide w.background

  -- what is kept between two capabilities
  record Meets (c : Capability) (w : At) : Type 0 where
    handler : OnSide w.handler
    at : Weakly w.restr.0 ⊎ Inside c w

  weakly-more : (a b : ℕ) → Weakly a → Weakly (bit_or a b)
  weakly-more a b w = record { crosses = w.crosses; read_only = has-left a b 1 w.read_only; weak = has-left a b 4 w.weak; no_call = has-left a b 16 w.no_call }

  -- no entry is of another kind
  not_entry : (k : CapKind) → is_entry k ≡ false → (c : Capability) → c.kind ≡ k → c.kind ≡ Entry → ⊥
  not_entry k other c e entry = let h = sym other ∙ (ap is_entry (sym e) ∙ ap is_entry entry) in cc (h)

  -- a GPT behind its guard: the walk is weak, or it is one of this side
  past_gpt : (c : Capability) (w : At) → c.kind ≡ Gpt → Meets c w → Weakly (past c w).restr.0 ⊎ ((side_of cut Gpt c.object ≡ side) × Inside c w)
  past_gpt c w k m = elim m.at [
    | inl weak ↦ inl (weakly-more w.restr.0 c.restr weak)
    | inr inside ↦ by inside inside.may.own
  ]
    where
      by : Inside c w → NamesOwn cut side c ⊎ (MayCross cut side c ⊎ MayCall cut side c) → Weakly (past c w).restr.0 ⊎ ((side_of cut Gpt c.object ≡ side) × Inside c w)
      by inside (inl own) = inr (subst (λ (j : CapKind). side_of cut (object_kind j) c.object ≡ side) k (own (ap (λ (j : CapKind). is_counted j) k)), inside)
      by inside (inr (inr call)) = absurd (not_entry Gpt refl c k call.0)
      by inside (inr (inl cross)) =
          let h = sym (ap (λ (j : CapKind). harmless_kind j c.restr) k) ∙ cross.1 in
          let p = and_parts _ _ h in
          let q = and_parts _ _ p.0 in
          inl (record {
            crosses = cross.0;
            read_only = has-right w.restr.0 c.restr 1 q.0;
            weak = has-right w.restr.0 c.restr 4 q.1;
            no_call = has-right w.restr.0 c.restr 16 p.1;
          })

  handler-by : (b : Bool) (g : ℕ) (h : Option ℕ) → OnSide h → (b ≡ true → side_of cut Gpt g ≡ side) → OnSide (if b then Some g else h)
  handler-by true g h on own = own refl
  handler-by false g h on own = on

  not_called : (ha nc : Bool) → nc ≡ true → (ha && not nc) ≡ true → ⊥
  not_called true true e h = cc
  not_called false true e h = cc
  not_called ha false e h = cc

  -- the handler GPT behind a GPT is of this side
  handler-gpt : (h : HeaderValue) (c : Capability) (w : At) → c.kind ≡ Gpt → Meets c w → OnSide (handler_from h c.object (past c w))
  handler-gpt h c w k m = handler-by (h.ha && not (has (past c w).restr.0 16)) c.object w.handler m.handler (λ on. elim (past_gpt c w k m) [
    | inl weak ↦ absurd (not_called h.ha (has (past c w).restr.0 16) weak.no_call on)
    | inr own ↦ own.0
  ])

  background-by : (b : Bool) (g : ℕ) (h : Option ℕ) → OnSide h → side_of cut Gpt g ≡ side → OnSide (if b then Some g else h)
  background-by true g h on own = own
  background-by false g h on own = on

  module _ (o : Items) (held : (g i : ℕ) → side_of cut Gpt g ≡ side → MayHold cut side (slot_at o g i)) (kind : Kind) where
    -- the handler of a GPT of this side may be held
    handler-held : (h : Option ℕ) → OnSide h → MayHoldIf cut side (handler_of o h)
    handler-held None on = tt
    handler-held (Some g) on = held g 15 on

    -- ---- a step that goes on

    goes-slot : (c : Capability) (w : At) (i : ℕ) → c.kind ≡ Gpt → Meets c w → Meets (slot_at o c.object i) (into_slot (header_at o c.object) c.object (past c w))
    goes-slot c w i k m = record {
      handler = handler-gpt (header_at o c.object) c w k m;
      at = elim (past_gpt c w k m) [
        | inl weak ↦ inl weak
        | inr own ↦ inr (record {
          may = held c.object i own.0;
          holding = own.0;
          background = background-by (header_at o c.object).bg c.object w.background own.1.background own.0;
        })
      ];
    }

    on-some : (h : Option ℕ) (g : ℕ) → h ≡ Some g → OnSide h → side_of cut Gpt g ≡ side
    on-some h g e on = subst OnSide e on

    goes-window : (c : Capability) (w : At) (g i : ℕ) → (Inside c w → side_of cut Gpt g ≡ side) → Meets c w → Meets (slot_at o g i) (through_window c g (past c w))
    goes-window c w g i own m = record {
      handler = m.handler;
      at = elim m.at [
        | inl weak ↦ inl (weakly-more w.restr.0 c.restr weak)
        | inr inside ↦ inr (record {
          may = held g i (own inside);
          holding = own inside;
          background = inside.background;
        })
      ];
    }

    goes : (c : Capability) (w next : At) (g i : ℕ) → Way o c (past c w) next g i → Meets c w → Meets (slot_at o g i) next
    goes c w next g i (BySlot k object index free into) m =
        subst (λ (t : At). Meets (slot_at o g i) t) into (subst (λ (f : ℕ). Meets (slot_at o f i) (into_slot (header_at o c.object) c.object (past c w))) object (goes-slot c w i k m))
    goes c w next g i (ByWindow k back index through) m =
        subst (λ (t : At). Meets (slot_at o g i) t) through (goes-window c w g i (λ inside. on-some w.background g back inside.background) m)
    goes c w next g i (ByLocal k hold index free through) m =
        subst (λ (t : At). Meets (slot_at o g i) t) through (goes-window c w g i (λ inside. on-some w.holding g hold inside.holding) m)

    -- ---- a step that ends

    serves-kind : (c : Capability) → Serves c.kind kind → c.kind ≡ serving kind
    serves-kind c (inl s) = s.0 ∙ ap (λ (b : Bool). if b then Page else CapPage) (sym s.1)
    serves-kind c (inr s) = s.0 ∙ ap (λ (b : Bool). if b then Page else CapPage) (sym s.1)

    not_page : (k : CapKind) → k ≡ Page → k ≡ CapPage → ⊥
    not_page k page cappage = cc

    inside-own : (c : Capability) (w : At) → Serves c.kind kind → MayHold cut side c → (side_of cut c.kind c.object ≡ side) ⊎ ReadsWeakly cut side (reached_place c (past c w))
    inside-own c w serves may = by serves may.own
      where
        by : Serves c.kind kind → NamesOwn cut side c ⊎ (MayCross cut side c ⊎ MayCall cut side c) → (side_of cut c.kind c.object ≡ side) ⊎ ReadsWeakly cut side (reached_place c (past c w))
        by (inl s) (inl own) = inl (ap (λ (j : CapKind). side_of cut j c.object) s.0 ∙ subst (λ (j : CapKind). side_of cut (object_kind j) c.object ≡ side) s.0 (own (ap (λ (j : CapKind). is_counted j) s.0)))
        by (inr s) (inl own) = inl (ap (λ (j : CapKind). side_of cut j c.object) s.0 ∙ subst (λ (j : CapKind). side_of cut (object_kind j) c.object ≡ side) s.0 (own (ap (λ (j : CapKind). is_counted j) s.0)))
        by (inl s) (inr (inr call)) = absurd (not_entry Page refl c s.0 call.0)
        by (inr s) (inr (inr call)) = absurd (not_entry CapPage refl c s.0 call.0)
        by (inl s) (inr (inl cross)) =
            let h = sym (ap (λ (j : CapKind). harmless_kind j c.restr) s.0) ∙ cross.1 in
            inr (cross.0, has-right w.restr.0 c.restr 1 h, λ k. absurd (not_page c.kind s.0 k))
        by (inr s) (inr (inl cross)) =
            let h = sym (ap (λ (j : CapKind). harmless_kind j c.restr) s.0) ∙ cross.1 in
            let p = and_parts _ _ h in
            inr (cross.0, has-right w.restr.0 c.restr 1 p.0, λ k. has-right w.restr.0 c.restr 4 p.1)

    reaches : (c : Capability) (w : At) (p : Place) → Reached kind c w p → Meets c w → Reaches cut side kind p
    reaches c w p r m = subst (λ (q : Place). Reaches cut side kind q) r.place (record {
      serves = serves-kind c r.serves;
      allowed = r.allowed;
      own = elim m.at [
        | inl weak ↦ let more = weakly-more w.restr.0 c.restr weak in inr (more.crosses, more.read_only, λ k. more.weak)
        | inr inside ↦ inside-own c w r.serves inside.may
      ];
    })

    faults : (c : Capability) (w : At) (h : Option ℕ) → HandledBy o c w h → Meets c w → MayHoldIf cut side (handler_of o h)
    faults c w h (inl same) m = handler-held h (subst OnSide same m.handler)
    faults c w h (inr gpt) m = handler-held h (subst OnSide gpt.1 (handler-gpt (header_at o c.object) c w gpt.0 m))

    -- ---- the walk

    after : (n : ℕ) → ((c : Capability) (w : At) → Meets c w → Ends cut side kind (walk o kind n c w)) → (c : Capability) (w : At) → Meets c w
        → (s : Step) → step o kind c w ≡ s → Ends cut side kind (walk_after o kind n s)
    after n rest c w m (Reach p) e = reaches c w p (reached kind p o c w e) m
    after n rest c w m (Fault code h) e = faults c w h (handled o kind code h c w e) m
    after n rest c w m (Go next g i) e = rest (slot_at o g i) next (goes c w next g i (gone o next g i c kind w e).way m)

    walk_ends : (n : ℕ) (c : Capability) (w : At) → Meets c w → Ends cut side kind (walk o kind n c w)
    walk_ends zero c w m = subst (λ (r : Result Place WalkFault). Ends cut side kind r) (sym (walk-zero o kind c w)) (handler-held w.handler m.handler)
    walk_ends (suc n) c w m =
        subst (λ (r : Result Place WalkFault). Ends cut side kind r) (sym (walk-suc o kind n c w)) (after n (λ c w m. walk_ends n c w m) c w m (step o kind c w) refl)

    -- an access through a space that this side may hold
    pub access_ends : (space : Capability) (address : ℕ) → MayHold cut side space → Ends cut side kind (access o space address kind)
    access_ends space address may = walk_ends 32 space (start_at address) (record { handler = tt; at = inr (record { may = may; holding = tt; background = tt }) })
