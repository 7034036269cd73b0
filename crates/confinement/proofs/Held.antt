-- Which capabilities a side may hold.
use Rattle.std.proofs.Common.{◌≡◌, ℕ, ◌⊎◌, inl, inr, Bool, true, false, ◌&&◌, if◌then◌else◌, refl, sym, ◌∙◌, ap, subst, arith}
use Rattle.std.specs.Int.{bit_at}
use Rattle.std.specs.Int.RustNames.{bit_or}
use Rattle.std.proofs.lemmas.Bool.{eq-eqb, eqb-true, and_from, and_parts}
use Rattle.std.proofs.lemmas.Nat.Bits.{bit_at_or, bit_at_and, same_from_bits}
use Rattle.cap_format.specs.declared.kind.CapKind.{CapKind}
use Rattle.cap_format.specs.declared.kind.CapKind.TheVariants.{Null, Page, CapPage, Gpt, Window, LocalWindow, Endpoint, Entry, Process, Range, Discrim, KernLog, SysCtl}
use Rattle.cap_format.specs.Kind.{is_counted, object_kind}
use Rattle.cap_format.specs.Restr.{has}
use Rattle.cap_format.specs.Guard.{GuardValue}
use Rattle.cap_format.specs.Capability.{Capability, null, with_guard}
use Rattle.cap_format.specs.Weakening.{reduced, weakened_kind, weakened, harmless_kind, is_harmless}
use Rattle.operations.specs.Weak.{read_through}
use Rattle.confinement.specs.declared.cut_side.CutSide.{CutSide}
use Rattle.confinement.specs.Cut.{Cut, side_of, NamesOwn, MayCross, MayCall, MayHold}

-- ---- restrictions

-- restrictions stay where more are added
pub has-left : (a b k : ℕ) → has a k ≡ true → has (bit_or a b) k ≡ true
has-left a b k h = eq-eqb _ _ (same_from_bits _ _ (λ i. let e = ap (λ n. bit_at n i) (eqb-true _ _ h) in omega (arith, e, bit_at_or a b i, bit_at_and a k i, bit_at_and (bit_or a b) k i)))

-- and those that are added are there
pub has-right : (a b k : ℕ) → has b k ≡ true → has (bit_or a b) k ≡ true
has-right a b k h = eq-eqb _ _ (same_from_bits _ _ (λ i. let e = ap (λ n. bit_at n i) (eqb-true _ _ h) in omega (arith, e, bit_at_or a b i, bit_at_and b k i, bit_at_and (bit_or a b) k i)))

-- the three that weakening adds
pub has-weak_1 : (a : ℕ) → has (bit_or a 21) 1 ≡ true
has-weak_1 a = has-right a 21 1 refl

-- WK
pub has-weak_4 : (a : ℕ) → has (bit_or a 21) 4 ≡ true
has-weak_4 a = has-right a 21 4 refl

-- NC
pub has-weak_16 : (a : ℕ) → has (bit_or a 21) 16 ≡ true
has-weak_16 a = has-right a 21 16 refl

-- ---- harmless capabilities

-- what is harmless stays so where restrictions are added
harmless_more : (k : CapKind) (a b : ℕ) → harmless_kind k a ≡ true → harmless_kind k (bit_or a b) ≡ true
harmless_more Null a b h = refl
harmless_more Discrim a b h = refl
harmless_more Page a b h = has-left a b 1 h
harmless_more CapPage a b h = let p = and_parts _ _ h in and_from _ _ (has-left a b 1 p.0) (has-left a b 4 p.1)
harmless_more Gpt a b h = let p = and_parts _ _ h in let q = and_parts _ _ p.0 in and_from _ _ (and_from _ _ (has-left a b 1 q.0) (has-left a b 4 q.1)) (has-left a b 16 p.1)
harmless_more Window a b h = let p = and_parts _ _ h in let q = and_parts _ _ p.0 in and_from _ _ (and_from _ _ (has-left a b 1 q.0) (has-left a b 4 q.1)) (has-left a b 16 p.1)
harmless_more LocalWindow a b h = let p = and_parts _ _ h in let q = and_parts _ _ p.0 in and_from _ _ (and_from _ _ (has-left a b 1 q.0) (has-left a b 4 q.1)) (has-left a b 16 p.1)
harmless_more _ a b h = absurd (cc (h))

all_three : (a : ℕ) → (has (bit_or a 21) 1 && has (bit_or a 21) 4 && has (bit_or a 21) 16) ≡ true
all_three a = and_from _ _ (and_from _ _ (has-weak_1 a) (has-weak_4 a)) (has-weak_16 a)

harmless_kind-weakened : (k : CapKind) (c : Capability) → c.kind ≡ k → is_harmless (weakened_kind k c) ≡ true
harmless_kind-weakened Null c e = ap (λ (k : CapKind). harmless_kind k c.restr) e
harmless_kind-weakened Discrim c e = ap (λ (k : CapKind). harmless_kind k c.restr) e
harmless_kind-weakened Page c e = ap (λ (k : CapKind). harmless_kind k (bit_or c.restr 21)) e ∙ has-weak_1 c.restr
harmless_kind-weakened CapPage c e = ap (λ (k : CapKind). harmless_kind k (bit_or c.restr 21)) e ∙ and_from _ _ (has-weak_1 c.restr) (has-weak_4 c.restr)
harmless_kind-weakened Gpt c e = ap (λ (k : CapKind). harmless_kind k (bit_or c.restr 21)) e ∙ all_three c.restr
harmless_kind-weakened Window c e = ap (λ (k : CapKind). harmless_kind k (bit_or c.restr 21)) e ∙ all_three c.restr
harmless_kind-weakened LocalWindow c e = ap (λ (k : CapKind). harmless_kind k (bit_or c.restr 21)) e ∙ all_three c.restr
harmless_kind-weakened _ c e = refl

-- what is weakened is harmless
pub is_harmless-weakened : (c : Capability) → is_harmless (weakened c) ≡ true
is_harmless-weakened c = harmless_kind-weakened c.kind c refl

-- the kinds that a cut speaks of by themselves, whatever they name
abbrev pub is_special : CapKind → Bool
is_special Range = true
is_special KernLog = true
is_special SysCtl = true
is_special _ = false

-- an entry
abbrev pub is_entry : CapKind → Bool
is_entry Entry = true
is_entry _ = false

module _ (cut : Cut) (side : CutSide) where
  -- what is of no such kind may be held where what it names is of this side, or it may cross
  pub may-plain : (c : Capability) → is_special c.kind ≡ false → NamesOwn cut side c ⊎ (MayCross cut side c ⊎ MayCall cut side c) → MayHold cut side c
  may-plain c plain own = record {
    no_range = λ h. let bad = sym (ap is_special h) ∙ plain in cc;
    halting = λ h. let bad = sym (ap is_special h) ∙ plain in absurd (cc (bad));
    logging = λ h. let bad = sym (ap is_special h) ∙ plain in absurd (cc (bad));
    own = own;
  }

  -- Null may be held by each side
  pub may-null : MayHold cut side null
  may-null = may-plain null refl (inl (λ e. absurd (cc (e))))

  -- so may what names no object and is of a plain kind
  pub may-uncounted : (c : Capability) (k : CapKind) → c.kind ≡ k → is_special k ≡ false → is_counted k ≡ false → MayHold cut side c
  may-uncounted c k e plain none = may-plain c (ap is_special e ∙ plain) (inl (λ h. absurd (cc (h, none, e))))

  -- and what names an object of this side
  pub may-own : (c : Capability) → is_special c.kind ≡ false → side_of cut (object_kind c.kind) c.object ≡ side → MayHold cut side c
  may-own c plain own = may-plain c plain (inl (λ h. own))

  -- and what may be held with more restrictions
  pub may-reduced : (c : Capability) (more : ℕ) → MayHold cut side c → MayHold cut side (reduced c more)
  may-reduced c more m = record {
    no_range = m.no_range;
    halting = m.halting;
    logging = m.logging;
    own = elim m.own [
      | inl own ↦ inl own
      | inr (inl cross) ↦ inr (inl (cross.0, harmless_more c.kind c.restr more cross.1))
      | inr (inr call) ↦ inr (inr call)
    ];
  }

  -- and with another guard
  pub may-with_guard : (c : Capability) (guard : GuardValue) → MayHold cut side c → MayHold cut side (with_guard c guard)
  may-with_guard c guard m = record { no_range = m.no_range; halting = m.halting; logging = m.logging; own = m.own }

  may-weakened_kind : (k : CapKind) (c : Capability) → c.kind ≡ k → MayHold cut side c → MayHold cut side (weakened_kind k c)
  may-weakened_kind Null c e m = m
  may-weakened_kind Discrim c e m = m
  may-weakened_kind Page c e m = may-reduced c 21 m
  may-weakened_kind CapPage c e m = may-reduced c 21 m
  may-weakened_kind Gpt c e m = may-reduced c 21 m
  may-weakened_kind Window c e m = may-reduced c 21 m
  may-weakened_kind LocalWindow c e m = may-reduced c 21 m
  may-weakened_kind _ c e m = may-null

  -- weakened it is a weakened one of what it names, or Null
  weak-plain : (k : CapKind) (c : Capability) → c.kind ≡ k → is_special (weakened_kind k c).kind ≡ false
  weak-plain Null c e = ap is_special e
  weak-plain Discrim c e = ap is_special e
  weak-plain Page c e = ap is_special e
  weak-plain CapPage c e = ap is_special e
  weak-plain Gpt c e = ap is_special e
  weak-plain Window c e = ap is_special e
  weak-plain LocalWindow c e = ap is_special e
  weak-plain _ c e = refl

  -- what is weakened may be held by each side, where what is harmless may cross
  pub may-cross_weakened : (c : Capability) → cut.weakly side ≡ true → MayHold cut side (weakened c)
  may-cross_weakened c weakly = may-plain (weakened c) (weak-plain c.kind c refl) (inr (inl (weakly, is_harmless-weakened c)))

  through : (c : Capability) (b : Bool) → MayHold cut side c → MayHold cut side (if b then weakened c else c)
  through c true m = may-weakened_kind c.kind c refl m
  through c false m = m

  -- what is read of a capability that may be held may be held
  pub may-read_own : (restr : ℕ) (c : Capability) → MayHold cut side c → MayHold cut side (read_through restr c)
  may-read_own restr c m = through c (has restr 4) m

  -- and so may what is read through WK of any capability
  pub may-read_weak : (restr : ℕ) (c : Capability) → cut.weakly side ≡ true → has restr 4 ≡ true → MayHold cut side (read_through restr c)
  may-read_weak restr c weakly weak =
      subst (λ (b : Bool). MayHold cut side (if b then weakened c else c)) (sym weak) (may-cross_weakened c weakly)

  -- ---- whose objects a side's capabilities name

  -- a capability of a kind that is not harmless names an object of the side that holds it, or it is an entry by which that calls
  pub side_or_call : (c : Capability) (k : CapKind) → c.kind ≡ k → is_counted k ≡ true → harmless_kind k c.restr ≡ false → MayHold cut side c
      → (side_of cut (object_kind k) c.object ≡ side) ⊎ MayCall cut side c
  side_or_call c k e counted harm m = elim m.own [
    | inl own ↦ inl (subst (λ (j : CapKind). side_of cut (object_kind j) c.object ≡ side) e (own (ap (λ (j : CapKind). is_counted j) e ∙ counted)))
    | inr (inl cross) ↦ let h = sym cross.1 ∙ (ap (λ (j : CapKind). harmless_kind j c.restr) e ∙ harm) in absurd (cc (h))
    | inr (inr call) ↦ inr call
  ]

  -- where it is no entry it names one
  pub side_named : (c : Capability) (k : CapKind) → c.kind ≡ k → is_entry k ≡ false → is_counted k ≡ true → harmless_kind k c.restr ≡ false → MayHold cut side c
      → side_of cut (object_kind k) c.object ≡ side
  side_named c k e other counted harm m = elim (side_or_call c k e counted harm m) [
    | inl own ↦ own
    | inr call ↦ let h = sym other ∙ (ap is_entry (sym e) ∙ ap is_entry call.0) in absurd (cc (h))
  ]

  -- a page that may be written
  pub side-page : (c : Capability) → c.kind ≡ Page → has c.restr 1 ≡ false → MayHold cut side c → side_of cut Page c.object ≡ side
  side-page c e writes m = side_named c Page e refl refl writes m

  -- a capability page that may be written
  pub side-cappage : (c : Capability) → c.kind ≡ CapPage → has c.restr 1 ≡ false → MayHold cut side c → side_of cut CapPage c.object ≡ side
  side-cappage c e writes m = side_named c CapPage e refl refl (ap (λ b. b && has c.restr 4) writes) m

  -- a GPT that may be written
  pub side-gpt : (c : Capability) → c.kind ≡ Gpt → has c.restr 1 ≡ false → MayHold cut side c → side_of cut Gpt c.object ≡ side
  side-gpt c e writes m = side_named c Gpt e refl refl (ap (λ b. b && has c.restr 4 && has c.restr 16) writes) m

  -- a process
  pub side-process : (c : Capability) → c.kind ≡ Process → MayHold cut side c → side_of cut Process c.object ≡ side
  side-process c e m = side_named c Process e refl refl refl m

  -- an endpoint
  pub side-endpoint : (c : Capability) → c.kind ≡ Endpoint → MayHold cut side c → side_of cut Endpoint c.object ≡ side
  side-endpoint c e m = side_named c Endpoint e refl refl refl m

  -- the endpoint of an entry, or it is one that is called
  pub side-entry : (c : Capability) → c.kind ≡ Entry → MayHold cut side c → (side_of cut Endpoint c.object ≡ side) ⊎ (cut.calls side c.object ≡ true)
  side-entry c e m = elim (side_or_call c Entry e refl refl m) [ inl own ↦ inl own | inr call ↦ inr call.1 ]

  -- the side's own read, or one through WK
  pub may-read : (holder : CutSide) (restr : ℕ) (c : Capability) → (holder ≡ side → MayHold cut side c) → (holder ≡ side) ⊎ ((cut.weakly side ≡ true) × (has restr 4 ≡ true)) → MayHold cut side (read_through restr c)
  may-read holder restr c m (inl own) = may-read_own restr c (m own)
  may-read holder restr c m (inr weak) = may-read_weak restr c weak.0 weak.1
