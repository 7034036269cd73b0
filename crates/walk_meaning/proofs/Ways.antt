-- What is known where a step goes on: which rule it was, and where it leads.
use Rattle.std.specs.Prelude.{◌≡◌, ℕ, ◌/◌, ◌^◌, Bool, true, false, not, if◌then◌else◌, ◌&&◌, ◌||◌, nat_le, nat_lt, Option, Some, None, refl}
use Rattle.std.proofs.Common.{◌∙◌, ap, subst}
use Rattle.cap_format.specs.Capability.{Capability, bare}
use Rattle.cap_format.specs.Kind.{is_memory}
use Rattle.cap_format.specs.declared.fault.FaultCode.TheVariants.{CapAccessTypeError, DataAccessTypeError, AccessViolation, MalformedSpace}
use Rattle.cap_format.specs.declared.kind.CapKind.{CapKind}
use Rattle.cap_format.specs.declared.kind.CapKind.TheVariants.{Page, CapPage, Gpt, Window, LocalWindow}
use Rattle.gpt_objects.specs.Header.{HeaderValue}
use Rattle.guard_math.specs.Pass.{passes}
use Rattle.object_store.specs.Store.{Items, header_at}
use Rattle.object_store.specs.Meaning.{map_of}
use Rattle.object_store.proofs.Means.{header_at-map_of}
use Rattle.walk_meaning.specs.declared.at.At.{At}
use Rattle.walk_meaning.specs.declared.kind.Kind.{Kind}
use Rattle.walk_meaning.specs.declared.step.Step.{Step}
use Rattle.walk_meaning.specs.declared.step.Step.TheVariants.{Reach, Fault, Go}
use Rattle.walk_meaning.specs.Walk.{is_data, invalid, denied, reached_place, at_slot, at_gpt, at_window, at_local, at_kind, is_reserved, handler_from, into_slot, through_window, past, step}

-- the rule by which the walk goes from a capability, whose guard was passed before w, to slot i of GPT g
pub data Way (o : Items) (c : Capability) (w next : At) (g i : ℕ) : Type 0 where
  BySlot : c.kind ≡ Gpt → c.object ≡ g → w.address / 2 ^ (header_at o c.object).l2v ≡ i → (nat_lt 15 i || is_reserved (header_at o c.object) i) ≡ false → into_slot (header_at o c.object) c.object w ≡ next → Way o c w next g i
  ByWindow : c.kind ≡ Window → w.background ≡ Some g → 14 ≡ i → through_window c g w ≡ next → Way o c w next g i
  ByLocal : c.kind ≡ LocalWindow → w.holding ≡ Some g → c.slot ≡ i → is_reserved (header_at o g) c.slot ≡ false → through_window c g w ≡ next → Way o c w next g i

-- a step that goes on
pub record Gone (o : Items) (c : Capability) (w next : At) (g i : ℕ) : Type 0 where
  pub passed : (is_memory c.kind && passes c.guard w.address) ≡ true
  pub way : Way o c (past c w) next g i

module _ (o : Items) (next : At) (g i : ℕ) where
  page_ends : (a b d : Bool) (s t u : Step) (p : Step) → (s ≡ Go next g i → ⊥) → (t ≡ Go next g i → ⊥) → (u ≡ Go next g i → ⊥) → (p ≡ Go next g i → ⊥) → (if a then s else (if b then t else (if d then u else p))) ≡ Go next g i → ⊥
  page_ends true b d s t u p hs ht hu hp e = hs e
  page_ends false true d s t u p hs ht hu hp e = ht e
  page_ends false false true s t u p hs ht hu hp e = hu e
  page_ends false false false s t u p hs ht hu hp e = hp e

  slot_goes : (h : HeaderValue) (f j : ℕ) (kind : Kind) (w : At) (b : Bool) → (nat_lt 15 j || is_reserved h j) ≡ b → (if b then Fault (invalid kind) (handler_from h f w) else Go (into_slot h f w) f j) ≡ Go next g i → ((nat_lt 15 j || is_reserved h j) ≡ false) × (Go (into_slot h f w) f j ≡ Go next g i)
  slot_goes h f j kind w true e goes = absurd (cc (goes))
  slot_goes h f j kind w false e goes = (e, goes)

  way-gpt : (c : Capability) (kind : Kind) (w : At) → c.kind ≡ Gpt → at_gpt (header_at o c.object) c.object kind w ≡ Go next g i → Way o c w next g i
  way-gpt c kind w k goes =
      let d = slot_goes (header_at o c.object) c.object (w.address / 2 ^ (header_at o c.object).l2v) kind w _ refl goes in
      let object : c.object ≡ g = cc (d.1) in
      let index : w.address / 2 ^ (header_at o c.object).l2v ≡ i = cc (d.1) in
      let into : into_slot (header_at o c.object) c.object w ≡ next = cc (d.1) in
      let P : ℕ → Type 0 = λ j. (nat_lt 15 j || is_reserved (header_at o c.object) j) ≡ false in
      BySlot k object index (subst P index d.0) into

  way-window : (f : Option ℕ) (c : Capability) (w : At) → c.kind ≡ Window → w.background ≡ f → at_window f c w ≡ Go next g i → Way o c w next g i
  way-window None c w k back goes = absurd (cc (goes))
  way-window (Some f) c w k back goes =
      let gpt : f ≡ g = cc (goes) in
      let index : 14 ≡ i = cc (goes) in
      let through : through_window c f w ≡ next = cc (goes) in
      ByWindow k (cc (back, gpt)) index (rw gpt at through)

  local_goes : (h : HeaderValue) (f : ℕ) (c : Capability) (w : At) (b : Bool) → is_reserved h c.slot ≡ b → (if b then Fault MalformedSpace w.handler else Go (through_window c f w) f c.slot) ≡ Go next g i → (is_reserved h c.slot ≡ false) × (Go (through_window c f w) f c.slot ≡ Go next g i)
  local_goes h f c w true e goes = absurd (cc (goes))
  local_goes h f c w false e goes = (e, goes)

  way-local : (f : Option ℕ) (c : Capability) (w : At) → c.kind ≡ LocalWindow → w.holding ≡ f → at_local o f c w ≡ Go next g i → Way o c w next g i
  way-local None c w k hold goes = absurd (cc (goes))
  way-local (Some f) c w k hold goes =
      let d = local_goes (header_at o f) f c w _ refl goes in
      let gpt : f ≡ g = cc (d.1) in
      let index : c.slot ≡ i = cc (d.1) in
      let through : through_window c f w ≡ next = cc (d.1) in
      let P : ℕ → Type 0 = λ v. is_reserved (header_at o v) c.slot ≡ false in
      ByLocal k (cc (hold, gpt)) index (subst P gpt d.0) (rw gpt at through)

  way-kind : (k : CapKind) (c : Capability) (kind : Kind) (w : At) → c.kind ≡ k → at_kind o kind k c w ≡ Go next g i → Way o c w next g i
  way-kind Page c kind w k goes = absurd (page_ends (nat_le 4096 w.address) (not (is_data kind)) (denied kind w.restr.0) (Fault (invalid kind) w.handler) (Fault CapAccessTypeError w.handler) (Fault AccessViolation w.handler) (Reach (reached_place c w)) (λ e. cc) (λ e. cc) (λ e. cc) (λ e. cc) goes)
  way-kind CapPage c kind w k goes = absurd (page_ends (nat_le 4096 w.address) (is_data kind) (denied kind w.restr.0) (Fault (invalid kind) w.handler) (Fault DataAccessTypeError w.handler) (Fault AccessViolation w.handler) (Reach (reached_place c w)) (λ e. cc) (λ e. cc) (λ e. cc) (λ e. cc) goes)
  way-kind Gpt c kind w k goes = way-gpt c kind w k goes
  way-kind Window c kind w k goes = way-window w.background c w k refl goes
  way-kind LocalWindow c kind w k goes = way-local w.holding c w k refl goes
  way-kind _ c kind w k goes = absurd (cc (goes))

  step_goes : (kind : Kind) (b : Bool) (s : Step) (h : Option ℕ) → (if b then s else Fault (invalid kind) h) ≡ Go next g i → (b ≡ true) × (s ≡ Go next g i)
  step_goes kind true s h goes = (refl, goes)
  step_goes kind false s h goes = absurd (cc (goes))

  -- a step that goes on goes by one of three rules
  pub gone : (c : Capability) (kind : Kind) (w : At) → step o kind c w ≡ Go next g i → Gone o c w next g i
  gone c kind w goes =
      let d = step_goes kind (is_memory c.kind && passes c.guard w.address) (at_kind o kind c.kind c (past c w)) w.handler goes in
      record { passed = d.0; way = way-kind c.kind c kind (past c w) refl d.1 }

-- ---- the other direction: a step by its rule

-- where the guard is passed, the rule of the kind decides
pub step-passed : (o : Items) (kind : Kind) (c : Capability) (w : At) → (is_memory c.kind && passes c.guard w.address) ≡ true → step o kind c w ≡ at_kind o kind c.kind c (past c w)
step-passed o kind c w passed = ap (λ (b : Bool). if b then at_kind o kind c.kind c (past c w) else Fault (invalid kind) w.handler) passed

-- a GPT leads into the slot that the address names, unless it is reserved
pub step-slot : (o : Items) (kind : Kind) (c : Capability) (w : At) (i : ℕ) → (is_memory c.kind && passes c.guard w.address) ≡ true → c.kind ≡ Gpt
    → (past c w).address / 2 ^ (header_at o c.object).l2v ≡ i → (nat_lt 15 i || is_reserved (header_at o c.object) i) ≡ false
    → step o kind c w ≡ Go (into_slot (header_at o c.object) c.object (past c w)) c.object i
step-slot o kind c w i passed k index free =
    step-passed o kind c w passed
    ∙ (ap (λ (k : CapKind). at_kind o kind k c (past c w)) k
    ∙ (ap (λ (j : ℕ). at_slot (header_at o c.object) c.object j kind (past c w)) index
    ∙ ap (λ (b : Bool). if b then Fault (invalid kind) (handler_from (header_at o c.object) c.object (past c w)) else Go (into_slot (header_at o c.object) c.object (past c w)) c.object i) free))

-- a window leads into slot 14 of the background GPT
pub step-window : (o : Items) (kind : Kind) (c : Capability) (w : At) (g : ℕ) → (is_memory c.kind && passes c.guard w.address) ≡ true → c.kind ≡ Window
    → w.background ≡ Some g → step o kind c w ≡ Go (through_window c g (past c w)) g 14
step-window o kind c w g passed k back =
    step-passed o kind c w passed
    ∙ (ap (λ (k : CapKind). at_kind o kind k c (past c w)) k
    ∙ ap (λ (b : Option ℕ). at_window b c (past c w)) back)

-- a local window leads into its slot of the holding GPT, unless it is reserved
pub step-local : (o : Items) (kind : Kind) (c : Capability) (w : At) (g : ℕ) → (is_memory c.kind && passes c.guard w.address) ≡ true → c.kind ≡ LocalWindow
    → w.holding ≡ Some g → is_reserved (header_at o g) c.slot ≡ false → step o kind c w ≡ Go (through_window c g (past c w)) g c.slot
step-local o kind c w g passed k hold free =
    step-passed o kind c w passed
    ∙ (ap (λ (k : CapKind). at_kind o kind k c (past c w)) k
    ∙ (ap (λ (h : Option ℕ). at_local o h c (past c w)) hold
    ∙ ap (λ (b : Bool). if b then Fault MalformedSpace w.handler else Go (through_window c g (past c w)) g c.slot) free))

-- a step that goes on does so for an access of any kind
pub gone-step : (o : Items) (kind : Kind) (c : Capability) (w next : At) (g i : ℕ) → Gone o c w next g i → step o kind c w ≡ Go next g i
gone-step o kind c w next g i d = on d.way
  where
    on : Way o c (past c w) next g i → step o kind c w ≡ Go next g i
    on (BySlot k object index free into) =
        step-slot o kind c w i d.passed k index free
        ∙ (ap (λ (t : At). Go t c.object i) into ∙ ap (λ (f : ℕ). Go next f i) object)
    on (ByWindow k back index through) =
        step-window o kind c w g d.passed k back ∙ (ap (λ (t : At). Go t g 14) through ∙ ap (λ (j : ℕ). Go next g j) index)
    on (ByLocal k hold index free through) =
        step-local o kind c w g d.passed k hold free ∙ (ap (λ (t : At). Go t g c.slot) through ∙ ap (λ (j : ℕ). Go next g j) index)

-- ---- what a step reads: headers alone

module _ (o p : Items) where
  local-headers : (g : Option ℕ) (c : Capability) (w : At) → ((f : ℕ) → g ≡ Some f → header_at o f ≡ header_at p f) → at_local o g c w ≡ at_local p g c w
  local-headers None c w hold = refl
  local-headers (Some g) c w hold =
      ap (λ (h : HeaderValue). if is_reserved h c.slot then Fault MalformedSpace w.handler else Go (through_window c g w) g c.slot) (hold g refl)

  kind-headers : (kind : Kind) (k : CapKind) (c : Capability) (w : At) → (k ≡ Gpt → header_at o c.object ≡ header_at p c.object)
      → ((f : ℕ) → w.holding ≡ Some f → header_at o f ≡ header_at p f) → at_kind o kind k c w ≡ at_kind p kind k c w
  kind-headers kind Page c w own hold = refl
  kind-headers kind CapPage c w own hold = refl
  kind-headers kind Gpt c w own hold = ap (λ (h : HeaderValue). at_gpt h c.object kind w) (own refl)
  kind-headers kind Window c w own hold = refl
  kind-headers kind LocalWindow c w own hold = local-headers w.holding c w hold
  kind-headers kind _ c w own hold = refl

  -- a step reads the header of the GPT that is named, and that of the holding GPT
  pub step-headers : (kind : Kind) (c : Capability) (w : At) → (c.kind ≡ Gpt → header_at o c.object ≡ header_at p c.object)
      → ((f : ℕ) → w.holding ≡ Some f → header_at o f ≡ header_at p f) → step o kind c w ≡ step p kind c w
  step-headers kind c w own hold =
      ap (λ (s : Step). if is_memory c.kind && passes c.guard w.address then s else Fault (invalid kind) w.handler)
      (kind-headers kind c.kind c (past c w) own hold)

-- ---- and no count

module _ (o : Items) where
  window-bare : (g : Option ℕ) (c : Capability) (w : At) → at_window g (bare c) w ≡ at_window g c w
  window-bare None c w = refl
  window-bare (Some g) c w = refl

  local-bare : (g : Option ℕ) (c : Capability) (w : At) → at_local o g (bare c) w ≡ at_local o g c w
  local-bare None c w = refl
  local-bare (Some g) c w = refl

  kind-bare : (kind : Kind) (k : CapKind) (c : Capability) (w : At) → at_kind o kind k (bare c) w ≡ at_kind o kind k c w
  kind-bare kind Page c w = refl
  kind-bare kind CapPage c w = refl
  kind-bare kind Gpt c w = refl
  kind-bare kind Window c w = window-bare w.background c w
  kind-bare kind LocalWindow c w = local-bare w.holding c w
  kind-bare kind _ c w = refl

  -- a step does not look at the count
  pub step-bare : (kind : Kind) (c : Capability) (w : At) → step o kind (bare c) w ≡ step o kind c w
  step-bare kind c w =
      ap (λ (s : Step). if is_memory c.kind && passes c.guard w.address then s else Fault (invalid kind) w.handler)
      (kind-bare kind c.kind c (past c w))

-- so a step over the meanings is one over what is stored
pub step-map_of : (o : Items) (kind : Kind) (c : Capability) (w : At) → step (map_of o) kind (bare c) w ≡ step o kind c w
step-map_of o kind c w = step-headers (map_of o) o kind (bare c) w (λ k. header_at-map_of o c.object) (λ g e. header_at-map_of o g) ∙ step-bare o kind c w
