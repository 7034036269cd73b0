-- Walks of one side are the same in two maps of items whose GPTs of this side are: none of its capabilities leads across
-- the cut, so each GPT by which such a walk goes is of this side, the handler GPT included.
use Rattle.std.proofs.Common.{◌≡◌, ℕ, zero, suc, inl, inr, Bool, true, false, not, ◌&&◌, if◌then◌else◌, Option, Some, None, Err, refl, sym, ◌∙◌, ap, subst}
use Rattle.cap_format.specs.declared.fault.FaultCode.{FaultCode}
use Rattle.cap_format.specs.declared.fault.FaultCode.TheVariants.{MalformedSpace}
use Rattle.cap_format.specs.declared.kind.CapKind.{CapKind}
use Rattle.cap_format.specs.declared.kind.CapKind.TheVariants.{Gpt}
use Rattle.cap_format.specs.Kind.{is_counted, object_kind}
use Rattle.cap_format.specs.Capability.{Capability}
use Rattle.cap_format.specs.Restr.{has}
use Rattle.gpt_objects.specs.Gpt.{GptValue, slot_of}
use Rattle.object_store.specs.Store.{Items, gpt_at, header_at, slot_at}
use Rattle.walk_meaning.specs.declared.at.At.{At}
use Rattle.walk_meaning.specs.declared.kind.Kind.{Kind}
use Rattle.walk_meaning.specs.declared.place.WalkFault.{WalkFault}
use Rattle.walk_meaning.specs.declared.step.Step.{Step}
use Rattle.walk_meaning.specs.declared.step.Step.TheVariants.{Reach, Fault, Go}
use Rattle.walk_meaning.specs.Walk.{handler_from, through_window, past, step, handler_of, fault, walk, start_at, access}
use Rattle.walk_meaning.specs.After.{walk_after}
use Rattle.walk_meaning.proofs.Walked.{walk-zero, walk-suc}
use Rattle.walk_meaning.proofs.Ways.{Way, gone, step-headers}
use Rattle.walk_meaning.proofs.Ways.Way.{BySlot, ByWindow, ByLocal}
use Rattle.walk_meaning.proofs.Ends.{HandledBy, handled}
use Rattle.confinement.specs.declared.cut_side.CutSide.{CutSide}
use Rattle.confinement.specs.Cut.{Cut, side_of, MayHold}
use Rattle.confinement.proofs.Held.{is_entry}

module _ (cut : Cut) (side : CutSide) (alone : cut.weakly side ≡ false) where
  -- a capability of a kind of objects that is no entry names one of this side
  pub names-kind : (c : Capability) (k : CapKind) → c.kind ≡ k → is_counted k ≡ true → is_entry k ≡ false → MayHold cut side c → side_of cut (object_kind k) c.object ≡ side
  names-kind c k e counted other may = elim may.own [
    | inl own ↦ subst (λ (j : CapKind). side_of cut (object_kind j) c.object ≡ side) e (own (ap (λ (j : CapKind). is_counted j) e ∙ counted))
    | inr (inl cross) ↦ let no_cross = sym alone ∙ cross.0 in absurd (cc (no_cross))
    | inr (inr call) ↦ let entry = sym (ap is_entry e) ∙ ap is_entry call.0 in absurd (cc (entry, other))
  ]

  -- there is no such GPT, or it is of this side
  abbrev OnSide : Option ℕ → Type 0
  OnSide None = Unit {0}
  OnSide (Some g) = side_of cut Gpt g ≡ side

  -- a capability is met that this side may hold, on a way through GPTs of this side
  record Inside (c : Capability) (w : At) : Type 0 where
    may : MayHold cut side c
    holding : OnSide w.holding
    background : OnSide w.background
    handler : OnSide w.handler

  own-gpt : (c : Capability) (w : At) → c.kind ≡ Gpt → Inside c w → side_of cut Gpt c.object ≡ side
  own-gpt c w k inside = names-kind c Gpt k refl refl inside.may

  on-by : (b : Bool) (g : ℕ) (h : Option ℕ) → OnSide h → side_of cut Gpt g ≡ side → OnSide (if b then Some g else h)
  on-by true g h on own = own
  on-by false g h on own = on

  on-some : (h : Option ℕ) (g : ℕ) → h ≡ Some g → OnSide h → side_of cut Gpt g ≡ side
  on-some h g e on = subst OnSide e on

  module _ (o u : Items) (held : (g i : ℕ) → side_of cut Gpt g ≡ side → MayHold cut side (slot_at o g i)) (same : (g : ℕ) → side_of cut Gpt g ≡ side → gpt_at o g ≡ gpt_at u g) (kind : Kind) where
    held-own : (g i : ℕ) → side_of cut Gpt g ≡ side → MayHold cut side (slot_at o g i)
    held-own g i own = held g i own

    handler-on : (c : Capability) (w : At) → c.kind ≡ Gpt → Inside c w → OnSide (handler_from (header_at o c.object) c.object (past c w))
    handler-on c w k inside =
        on-by ((header_at o c.object).ha && not (has (past c w).restr.0 16)) c.object w.handler inside.handler (own-gpt c w k inside)

    -- ---- a step that goes on

    window-inside : (c : Capability) (w : At) (g i : ℕ) → side_of cut Gpt g ≡ side → Inside c w → Inside (slot_at o g i) (through_window c g (past c w))
    window-inside c w g i own inside = record { may = held-own g i own; holding = own; background = inside.background; handler = inside.handler }

    goes : (c : Capability) (w next : At) (g i : ℕ) → Way o c (past c w) next g i → Inside c w → (side_of cut Gpt g ≡ side) × Inside (slot_at o g i) next
    goes c w next g i (BySlot k object index free into) inside =
        let here = own-gpt c w k inside in
        let own = subst (λ (f : ℕ). side_of cut Gpt f ≡ side) object here in (
          own,
          subst (λ (t : At). Inside (slot_at o g i) t) into (record {
            may = held-own g i own;
            holding = here;
            background = on-by (header_at o c.object).bg c.object w.background inside.background here;
            handler = handler-on c w k inside;
          }),
        )
    goes c w next g i (ByWindow k back index through) inside =
        let own = on-some w.background g back inside.background in
        (own, subst (λ (t : At). Inside (slot_at o g i) t) through (window-inside c w g i own inside))
    goes c w next g i (ByLocal k hold index free through) inside =
        let own = on-some w.holding g hold inside.holding in
        (own, subst (λ (t : At). Inside (slot_at o g i) t) through (window-inside c w g i own inside))

    -- ---- a step that ends

    handled-on : (c : Capability) (w : At) (h : Option ℕ) → HandledBy o c w h → Inside c w → OnSide h
    handled-on c w h (inl at) inside = subst OnSide at inside.handler
    handled-on c w h (inr gpt) inside = subst OnSide gpt.1 (handler-on c w gpt.0 inside)

    same-handler : (h : Option ℕ) → OnSide h → handler_of o h ≡ handler_of u h
    same-handler None on = refl
    same-handler (Some g) on = ap (λ (gpt : GptValue). Some (slot_of gpt 15)) (same g on)

    same-fault : (code : FaultCode) (h : Option ℕ) → OnSide h → fault o code h ≡ fault u code h
    same-fault code h on = ap (λ (c : Option Capability). record { code = code; handler = c }) (same-handler h on)

    -- ---- the walk

    same-step : (c : Capability) (w : At) → Inside c w → step o kind c w ≡ step u kind c w
    same-step c w inside =
        step-headers o u kind c w (λ k. ap (λ (gpt : GptValue). gpt.header) (same c.object (own-gpt c w k inside)))
        (λ g hold. ap (λ (gpt : GptValue). gpt.header) (same g (on-some w.holding g hold inside.holding)))

    abbrev SameWalk : ℕ → Type 0
    SameWalk n = (c : Capability) (w : At) → Inside c w → walk o kind n c w ≡ walk u kind n c w

    same-after : (n : ℕ) → SameWalk n → (c : Capability) (w : At) → Inside c w → (s : Step) → step o kind c w ≡ s → walk_after o kind n s ≡ walk_after u kind n s
    same-after n rest c w inside (Reach p) e = refl
    same-after n rest c w inside (Fault code h) e =
        ap (λ (f : WalkFault). Err f) (same-fault code h (handled-on c w h (handled o kind code h c w e) inside))
    same-after n rest c w inside (Go next g i) e =
        let on = goes c w next g i (gone o next g i c kind w e).way inside in
        rest (slot_at o g i) next on.1 ∙ ap (λ (gpt : GptValue). walk u kind n (slot_of gpt i) next) (same g on.0)

    same-walk : (n : ℕ) → SameWalk n
    same-walk zero c w inside =
        walk-zero o kind c w ∙ (ap (λ (f : WalkFault). Err f) (same-fault MalformedSpace w.handler inside.handler) ∙ sym (walk-zero u kind c w))
    same-walk (suc n) c w inside =
        walk-suc o kind n c w
        ∙ (same-after n (λ c w inside. same-walk n c w inside) c w inside (step o kind c w) refl
        ∙ (ap (λ (s : Step). walk_after u kind n s) (same-step c w inside) ∙ sym (walk-suc u kind n c w)))

    -- an access through a space that this side may hold
    pub same-access : (space : Capability) (address : ℕ) → MayHold cut side space → access o space address kind ≡ access u space address kind
    same-access space address may = same-walk 32 space (start_at address) (record { may = may; holding = tt; background = tt; handler = tt })
