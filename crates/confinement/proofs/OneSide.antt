-- A set of objects, with the pages that may be written besides, as one side of a cut: it is bounded exactly where the cut
-- holds for that side.
use Rattle.std.proofs.Common.{◌≡◌, ◌≢◌, ℕ, ◌⊎◌, inl, inr, Bool, true, false, refl, sym, ap, subst}
use Rattle.std.proofs.lemmas.Bool.{cases_Bool, or_cases, or_left, or_right}
use Rattle.cap_format.specs.declared.kind.CapKind.{CapKind}
use Rattle.cap_format.specs.declared.kind.CapKind.TheVariants.{Page}
use Rattle.cap_format.specs.Kind.{is_counted, object_kind}
use Rattle.cap_format.specs.Capability.{Capability}
use Rattle.cap_format.specs.Weakening.{is_harmless}
use Rattle.operations.specs.System.{System}
use Rattle.confinement.specs.declared.cut_side.CutSide.{CutSide}
use Rattle.confinement.specs.declared.cut_side.CutSide.TheVariants.{Left, Right}
use Rattle.confinement.specs.Cut.{Cut, no_realm, IsClosed, same_side, NamesOwn, MayCross, MayCall, MayHold, HoldsFor}
use Rattle.confinement.proofs.Own.{own-sleep, none-beyond}
use Rattle.confinement.specs.authority.Authority.{Authority, NamesWithin, Grants, IsBounded}
use Rattle.confinement.specs.authority.Within.{may_change}

-- the side of what may change, and of all else
abbrev pub side_if : Bool → CutSide
side_if true = Left
side_if false = Right

pub is-left : (b : Bool) → side_if b ≡ Left → b ≡ true
is-left true e = refl
is-left false e = absurd (cc (e))

pub not-left : (b : Bool) → b ≡ false → side_if b ≢ Left
not-left true none e = cc (none)
not-left false none e = cc (e)

pub one-side : (x y : Bool) → side_if x ≡ side_if y → x ≡ y
one-side true true e = refl
one-side false false e = refl
one-side true false e = absurd (cc (e))
one-side false true e = absurd (cc (e))

-- whether it is on the left is whether it may change
pub same_side-left : (b : Bool) → same_side (side_if b) Left ≡ b
same_side-left true = refl
same_side-left false = refl

-- only a Page names a page
page-kind : (k : CapKind) → object_kind k ≡ Page → k ≡ Page
page-kind Page e = refl
page-kind _ e = absurd (cc (e))

module _ (a : Authority) where
  -- the cut between what may change and all else
  abbrev pub cut_of : Cut
  cut_of = record {
    side = λ kind n. side_if (may_change a kind n);
    weakly = λ side. a.looks;
    halts = λ side. a.halts;
    logs = λ side. a.logs;
    calls = λ side e. false;
    hears = λ side q. false;
    realm = λ q. no_realm;
  }

  -- over which nobody calls
  pub is-closed : IsClosed cut_of
  is-closed = record { calls = λ side e. refl; hears = λ side q. refl }

  -- an object of the set may change
  pub changes-own : (kind : CapKind) (n : ℕ) → a.objects kind n ≡ true → may_change a kind n ≡ true
  changes-own Page n own = or_left (a.objects Page n) (a.pages n) own
  changes-own _ n own = own

  -- and what may change is an object of the set, or a page that may be written
  changed-by : (kind : CapKind) (n : ℕ) → may_change a kind n ≡ true → (a.objects kind n ≡ true) ⊎ ((kind ≡ Page) × (a.pages n ≡ true))
  changed-by Page n may = elim (or_cases (a.objects Page n) (a.pages n) may) [ inl own ↦ inl own | inr page ↦ inr (refl, page) ]
  changed-by _ n may = inl may

  -- ---- one capability

  grants-own : (c : Capability) → NamesWithin a c → NamesOwn cut_of Left c ⊎ (MayCross cut_of Left c ⊎ MayCall cut_of Left c)
  grants-own c named = by (cases_Bool (is_counted c.kind))
    where
      changes : (a.objects (object_kind c.kind) c.object ≡ true) ⊎ (((a.looks ≡ true) × (is_harmless c ≡ true)) ⊎ ((c.kind ≡ Page) × (a.pages c.object ≡ true)))
          → NamesOwn cut_of Left c ⊎ (MayCross cut_of Left c ⊎ MayCall cut_of Left c)
      changes (inl own) = inl (λ e. ap side_if (changes-own (object_kind c.kind) c.object own))
      changes (inr (inl harmless)) = inr (inl harmless)
      changes (inr (inr page)) = inl (λ e.
          ap side_if (subst (λ (k : CapKind). may_change a (object_kind k) c.object ≡ true) (sym page.0) (or_right (a.objects Page c.object) (a.pages c.object) page.1)))

      by : (is_counted c.kind ≡ true) ⊎ (is_counted c.kind ≡ false) → NamesOwn cut_of Left c ⊎ (MayCross cut_of Left c ⊎ MayCall cut_of Left c)
      by (inl counted) = changes (named counted)
      by (inr free) = inl (λ e. absurd (cc (free, e)))

  grants-may : (c : Capability) → Grants a c → MayHold cut_of Left c
  grants-may c grants = record { no_range = grants.no_range; halting = grants.halting; logging = grants.logging; own = grants-own c grants.named }

  own-named : (c : Capability) → NamesOwn cut_of Left c ⊎ (MayCross cut_of Left c ⊎ MayCall cut_of Left c) → NamesWithin a c
  own-named c (inl own) counted = elim (changed-by (object_kind c.kind) c.object (is-left _ (own counted))) [
    | inl here ↦ inl here
    | inr page ↦ inr (inr (page-kind c.kind page.0, page.1))
  ]
  own-named c (inr (inl cross)) counted = inr (inl cross)
  own-named c (inr (inr call)) counted = let none = call.1 in absurd (cc (none))

  may-grants : (c : Capability) → MayHold cut_of Left c → Grants a c
  may-grants c may = record { no_range = may.no_range; halting = may.halting; logging = may.logging; named = own-named c may.own }

  -- ---- a whole system

  pub bounded-holds : (w : System) → IsBounded a w → HoldsFor cut_of Left w
  bounded-holds w bounded = let each = bounded.each in record {
    each = record {
      slots = λ g i own. grants-may _ (each.slots g i (is-left _ own));
      cappages = λ n i own. grants-may _ (each.cappages n i (is-left _ own));
      capregs = λ p i own. grants-may _ (each.capregs p i (is-left _ own));
      process_slots = λ p i own. grants-may _ (each.process_slots p i (is-left _ own));
      recipients = λ e own. grants-may _ (each.recipients e (is-left _ own));
    };
    sleepers = λ on p there. inl (ap side_if (bounded.sleepers on p there));
    beyond = none-beyond cut_of is-closed Left w.store;
  }

  pub holds-bounded : (w : System) → HoldsFor cut_of Left w → IsBounded a w
  holds-bounded w holds = let each = holds.each in record {
    each = record {
      slots = λ g i own. may-grants _ (each.slots g i (ap side_if own));
      cappages = λ n i own. may-grants _ (each.cappages n i (ap side_if own));
      capregs = λ p i own. may-grants _ (each.capregs p i (ap side_if own));
      process_slots = λ p i own. may-grants _ (each.process_slots p i (ap side_if own));
      recipients = λ e own. may-grants _ (each.recipients e (ap side_if own));
    };
    sleepers = λ on p there. one-side _ _ (own-sleep cut_of is-closed p on (holds.sleepers on p there));
  }
