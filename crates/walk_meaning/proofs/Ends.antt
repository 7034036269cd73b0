-- What is known where a step ends a walk: at a place, or in a fault.
use Rattle.std.specs.Prelude.{◌≡◌, ◌⊎◌, ℕ, ◌/◌, ◌^◌, Bool, true, false, not, if◌then◌else◌, ◌&&◌, ◌||◌, nat_le, nat_lt, Option, Some, None, refl}
use Rattle.std.proofs.Common.{◌∙◌, ap, inl, inr}
use Rattle.cap_format.specs.Capability.{Capability}
use Rattle.cap_format.specs.Kind.{is_memory}
use Rattle.cap_format.specs.declared.fault.FaultCode.{FaultCode}
use Rattle.cap_format.specs.declared.fault.FaultCode.TheVariants.{CapAccessTypeError, DataAccessTypeError, AccessViolation, MalformedSpace}
use Rattle.cap_format.specs.declared.kind.CapKind.{CapKind}
use Rattle.cap_format.specs.declared.kind.CapKind.TheVariants.{Page, CapPage, Gpt, Window, LocalWindow}
use Rattle.guard_math.specs.Pass.{passes}
use Rattle.object_store.specs.Store.{Items, header_at}
use Rattle.walk_meaning.specs.declared.at.At.{At}
use Rattle.walk_meaning.specs.declared.kind.Kind.{Kind}
use Rattle.walk_meaning.specs.declared.place.Place.{Place}
use Rattle.walk_meaning.specs.declared.step.Step.{Step}
use Rattle.walk_meaning.specs.declared.step.Step.TheVariants.{Reach, Fault, Go}
use Rattle.walk_meaning.specs.Walk.{is_data, invalid, denied, reached_place, at_page, at_cappage, at_window, at_local, at_kind, is_reserved, handler_from, into_slot, through_window, past, step}
use Rattle.walk_meaning.proofs.Ways.{step-passed}

-- a fact of both branches of a test, and of all four branches of the rules of pages
if_all : (P : Step → Type 0) (b : Bool) (s t : Step) → P s → P t → P (if b then s else t)
if_all P true s t p q = p
if_all P false s t p q = q

-- ---- at a place

-- a capability page serves the capability kinds, a page the data kinds
abbrev pub Serves : CapKind → Kind → Type 0
Serves object kind = ((object ≡ Page) × (is_data kind ≡ true)) ⊎ ((object ≡ CapPage) × (is_data kind ≡ false))

-- a step that reaches place p
pub record Reached (kind : Kind) (c : Capability) (w : At) (p : Place) : Type 0 where
  pub passed : (is_memory c.kind && passes c.guard w.address) ≡ true
  pub serves : Serves c.kind kind
  pub within : nat_le 4096 (past c w).address ≡ false
  pub allowed : denied kind (past c w).restr.0 ≡ false
  pub place : reached_place c (past c w) ≡ p

-- what the rules of pages find where they reach place p: no test is true
pub record Tests (a b d : Bool) (place p : Place) : Type 0 where
  pub first : a ≡ false
  pub second : b ≡ false
  pub third : d ≡ false
  pub place_is : place ≡ p

module _ (kind : Kind) (p : Place) where
  tests : (x y : FaultCode) (h : Option ℕ) (place : Place) (a b d : Bool) → (if a then Fault (invalid kind) h else (if b then Fault x h else (if d then Fault y h else Reach place))) ≡ Reach p → Tests a b d place p
  tests x y h place true b d e = absurd (cc (e))
  tests x y h place false true d e = absurd (cc (e))
  tests x y h place false false true e = absurd (cc (e))
  tests x y h place false false false e = record { first = refl; second = refl; third = refl; place_is = cc }

  not_false : (b : Bool) → not b ≡ false → b ≡ true
  not_false true e = refl
  not_false false e = absurd (cc (e))

  reached_page : (c : Capability) (w : At) → (is_memory c.kind && passes c.guard w.address) ≡ true → c.kind ≡ Page → at_page kind c (past c w) ≡ Reach p → Reached kind c w p
  reached_page c w passed k e =
      let t = tests CapAccessTypeError AccessViolation w.handler (reached_place c (past c w)) (nat_le 4096 (past c w).address) (not (is_data kind)) (denied kind (past c w).restr.0) e in
      record { passed = passed; serves = inl (k, not_false (is_data kind) t.second); within = t.first; allowed = t.third; place = t.place_is }

  reached_cappage : (c : Capability) (w : At) → (is_memory c.kind && passes c.guard w.address) ≡ true → c.kind ≡ CapPage → at_cappage kind c (past c w) ≡ Reach p → Reached kind c w p
  reached_cappage c w passed k e =
      let t = tests DataAccessTypeError AccessViolation w.handler (reached_place c (past c w)) (nat_le 4096 (past c w).address) (is_data kind) (denied kind (past c w).restr.0) e in
      record { passed = passed; serves = inr (k, t.second); within = t.first; allowed = t.third; place = t.place_is }

  never_slot : (b : Bool) (s t : Step) → (s ≡ Reach p → ⊥) → (t ≡ Reach p → ⊥) → (if b then s else t) ≡ Reach p → ⊥
  never_slot b s t hs ht = if_all (λ (s : Step). s ≡ Reach p → ⊥) b s t hs ht

  never_window : (g : Option ℕ) (c : Capability) (w : At) → at_window g c w ≡ Reach p → ⊥
  never_window None c w e = cc
  never_window (Some g) c w e = cc

  never_local : (o : Items) (g : Option ℕ) (c : Capability) (w : At) → at_local o g c w ≡ Reach p → ⊥
  never_local o None c w e = cc
  never_local o (Some g) c w e = never_slot (is_reserved (header_at o g) c.slot) (Fault MalformedSpace w.handler) (Go (through_window c g w) g c.slot) (λ e. cc) (λ e. cc) e

  reached_kind : (o : Items) (k : CapKind) (c : Capability) (w : At) → (is_memory c.kind && passes c.guard w.address) ≡ true → c.kind ≡ k → at_kind o kind k c (past c w) ≡ Reach p → Reached kind c w p
  reached_kind o Page c w passed k e = reached_page c w passed k e
  reached_kind o CapPage c w passed k e = reached_cappage c w passed k e
  reached_kind o Gpt c w passed k e =
      let h = header_at o c.object in
      let i : ℕ = (past c w).address / 2 ^ h.l2v in
      absurd (never_slot (nat_lt 15 i || is_reserved h i) (Fault (invalid kind) (handler_from h c.object (past c w))) (Go (into_slot h c.object (past c w)) c.object i) (λ e. cc) (λ e. cc) e)
  reached_kind o Window c w passed k e = absurd (never_window w.background c (past c w) e)
  reached_kind o LocalWindow c w passed k e = absurd (never_local o w.holding c (past c w) e)
  reached_kind o _ c w passed k e = absurd (cc (e))

  reached_passed : (b : Bool) (s : Step) (h : Option ℕ) → (if b then s else Fault (invalid kind) h) ≡ Reach p → (b ≡ true) × (s ≡ Reach p)
  reached_passed true s h e = (refl, e)
  reached_passed false s h e = absurd (cc (e))

  -- a step that reaches a place
  pub reached : (o : Items) (c : Capability) (w : At) → step o kind c w ≡ Reach p → Reached kind c w p
  reached o c w e =
      let d = reached_passed (is_memory c.kind && passes c.guard w.address) (at_kind o kind c.kind c (past c w)) w.handler e in
      reached_kind o c.kind c w d.0 refl d.1

-- ---- and by its rule

-- three tests that are false leave the place
all_pass : (kind : Kind) (x y : FaultCode) (h : Option ℕ) (place : Place) (a b d : Bool) → a ≡ false → b ≡ false → d ≡ false → (if a then Fault (invalid kind) h else (if b then Fault x h else (if d then Fault y h else Reach place))) ≡ Reach place
all_pass kind x y h place a b d ea eb ed =
    ap (λ (a : Bool). if a then Fault (invalid kind) h else (if b then Fault x h else (if d then Fault y h else Reach place))) ea
    ∙ (ap (λ (b : Bool). if b then Fault x h else (if d then Fault y h else Reach place)) eb
    ∙ ap (λ (d : Bool). if d then Fault y h else Reach place) ed)

-- where the guard is passed, the page serves the kind, and nothing denies it, the step reaches
pub step-reaches : (o : Items) (kind : Kind) (c : Capability) (w : At) → (is_memory c.kind && passes c.guard w.address) ≡ true → Serves c.kind kind
    → nat_le 4096 (past c w).address ≡ false → denied kind (past c w).restr.0 ≡ false → step o kind c w ≡ Reach (reached_place c (past c w))
step-reaches o kind c w passed (inl serves) within allowed =
    step-passed o kind c w passed
    ∙ (ap (λ (k : CapKind). at_kind o kind k c (past c w)) serves.0
    ∙ all_pass kind CapAccessTypeError AccessViolation w.handler (reached_place c (past c w)) _ _ _ within (ap not serves.1) allowed)
step-reaches o kind c w passed (inr serves) within allowed =
    step-passed o kind c w passed
    ∙ (ap (λ (k : CapKind). at_kind o kind k c (past c w)) serves.0
    ∙ all_pass kind DataAccessTypeError AccessViolation w.handler (reached_place c (past c w)) _ _ _ within serves.1 allowed)

-- ---- denied there

last_denies : (kind : Kind) (x : FaultCode) (h : Option ℕ) (place : Place) (a b d : Bool) → a ≡ false → b ≡ false → d ≡ true → (if a then Fault (invalid kind) h else (if b then Fault x h else (if d then Fault AccessViolation h else Reach place))) ≡ Fault AccessViolation h
last_denies kind x h place a b d ea eb ed =
    ap (λ (a : Bool). if a then Fault (invalid kind) h else (if b then Fault x h else (if d then Fault AccessViolation h else Reach place))) ea
    ∙ (ap (λ (b : Bool). if b then Fault x h else (if d then Fault AccessViolation h else Reach place)) eb
    ∙ ap (λ (d : Bool). if d then Fault AccessViolation h else Reach place) ed)

-- where only the restrictions deny the kind, the step ends in an access violation
pub step-denied : (o : Items) (kind : Kind) (c : Capability) (w : At) → (is_memory c.kind && passes c.guard w.address) ≡ true → Serves c.kind kind
    → nat_le 4096 (past c w).address ≡ false → denied kind (past c w).restr.0 ≡ true → step o kind c w ≡ Fault AccessViolation w.handler
step-denied o kind c w passed (inl serves) within allowed =
    step-passed o kind c w passed
    ∙ (ap (λ (k : CapKind). at_kind o kind k c (past c w)) serves.0
    ∙ last_denies kind CapAccessTypeError w.handler (reached_place c (past c w)) _ _ _ within (ap not serves.1) allowed)
step-denied o kind c w passed (inr serves) within allowed =
    step-passed o kind c w passed
    ∙ (ap (λ (k : CapKind). at_kind o kind k c (past c w)) serves.0
    ∙ last_denies kind DataAccessTypeError w.handler (reached_place c (past c w)) _ _ _ within serves.1 allowed)

-- ---- in a fault

-- the handler GPT of a step that faults: the one so far, or the one that the GPT itself makes of it
abbrev pub HandledBy : Items → Capability → At → Option ℕ → Type 0
HandledBy o c w h = (w.handler ≡ h) ⊎ ((c.kind ≡ Gpt) × (handler_from (header_at o c.object) c.object (past c w) ≡ h))

module _ (o : Items) (kind : Kind) (code : FaultCode) (h : Option ℕ) where
  -- what is to be shown of a branch
  abbrev Handled : Capability → At → Step → Type 0
  Handled c w s = s ≡ Fault code h → HandledBy o c w h

  handled_page : (c : Capability) (w : At) (x y : FaultCode) (place : Place) (a b d : Bool) → Handled c w (if a then Fault (invalid kind) w.handler else (if b then Fault x w.handler else (if d then Fault y w.handler else Reach place)))
  handled_page c w x y place a b d =
      if_all (Handled c w) a _ _ (λ e. inl cc) (if_all (Handled c w) b _ _ (λ e. inl cc) (if_all (Handled c w) d _ _ (λ e. inl cc) (λ e. absurd (cc (e)))))

  handled_window : (g : Option ℕ) (c : Capability) (w : At) → Handled c w (at_window g c (past c w))
  handled_window None c w e = inl cc
  handled_window (Some g) c w e = absurd (cc (e))

  handled_local : (g : Option ℕ) (c : Capability) (w : At) → Handled c w (at_local o g c (past c w))
  handled_local None c w e = inl cc
  handled_local (Some g) c w e =
      if_all (Handled c w) (is_reserved (header_at o g) c.slot) (Fault MalformedSpace w.handler) (Go (through_window c g (past c w)) g c.slot) (λ e. inl cc) (λ e. absurd (cc (e))) e

  handled_kind : (k : CapKind) (c : Capability) (w : At) → c.kind ≡ k → Handled c w (at_kind o kind k c (past c w))
  handled_kind Page c w k e = handled_page c w CapAccessTypeError AccessViolation (reached_place c (past c w)) (nat_le 4096 (past c w).address) (not (is_data kind)) (denied kind (past c w).restr.0) e
  handled_kind CapPage c w k e = handled_page c w DataAccessTypeError AccessViolation (reached_place c (past c w)) (nat_le 4096 (past c w).address) (is_data kind) (denied kind (past c w).restr.0) e
  handled_kind Gpt c w k e =
      let header = header_at o c.object in
      let i : ℕ = (past c w).address / 2 ^ header.l2v in
      if_all (Handled c w) (nat_lt 15 i || is_reserved header i) (Fault (invalid kind) (handler_from header c.object (past c w))) (Go (into_slot header c.object (past c w)) c.object i) (λ e. inr (k, cc)) (λ e. absurd (cc (e))) e
  handled_kind Window c w k e = handled_window w.background c w e
  handled_kind LocalWindow c w k e = handled_local w.holding c w e
  handled_kind _ c w k e = inl cc

  -- a step that faults
  pub handled : (c : Capability) (w : At) → step o kind c w ≡ Fault code h → HandledBy o c w h
  handled c w e = if_all (Handled c w) (is_memory c.kind && passes c.guard w.address) (at_kind o kind c.kind c (past c w)) (Fault (invalid kind) w.handler) (handled_kind c.kind c w refl) (λ e. inl cc) e
