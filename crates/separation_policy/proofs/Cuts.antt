-- Where a policy holds, the cut holds for each domain between its view and all else.
use Rattle.std.proofs.Common.{◌≡◌, ℕ, ◌⊎◌, inl, inr, Bool, true, false, refl, sym, ◌∙◌, ap}
use Rattle.std.proofs.lemmas.Bool.{cases_Bool}
use Rattle.cap_format.specs.declared.kind.CapKind.{CapKind}
use Rattle.cap_format.specs.declared.kind.CapKind.TheVariants.{CapPage, Gpt, Endpoint, Process}
use Rattle.cap_format.specs.Kind.{is_counted}
use Rattle.cap_format.specs.Capability.{Capability}
use Rattle.cap_format.specs.Weakening.{is_harmless}
use Rattle.schedules.specs.Queues.{sleepers_of}
use Rattle.operations.specs.System.{System}
use Rattle.confinement.specs.declared.cut_side.CutSide.TheVariants.{Right}
use Rattle.confinement.specs.Cut.{Cut, side_of, same_side, NamesOwn, MayCross, MayCall, MayHold, Holds}
use Rattle.confinement.proofs.Sleeping.{each_on}
use Rattle.separation_policy.specs.Policy.{PolicyValue, domain_of, domain_named, may_write, MayName, MayStand, PolicyHolds, views, side_if, view_cut}
use Rattle.separation_policy.specs.Policy.MayName.{Own, Read, Written, Shown}
use Rattle.separation_policy.specs.Laws.{ViewCutLaw}
use Rattle.separation_policy.proofs.Reading.{views-then, reads-view, writes-view, written-view, writer-view}

-- whoever stands on the same side of a cut is inside or outside with the other
pub one_side : (x y : Bool) → side_if x ≡ side_if y → x ≡ y
one_side true true e = refl
one_side false false e = refl
one_side true false e = absurd (cc (e))
one_side false true e = absurd (cc (e))

module _ (policy : PolicyValue) (a : ℕ) where
  abbrev cut : Cut
  cut = view_cut policy a

  -- ---- one capability

  module _ (kind : CapKind) (n : ℕ) (c : Capability) where
    abbrev home : ℕ
    home = domain_of policy kind n

    abbrev named : ℕ
    named = domain_named policy c

    -- what it names is on the side of the object, or it may cross
    abbrev OwnOver : Type 0
    OwnOver = NamesOwn cut (side_of cut kind n) c ⊎ (MayCross cut (side_of cut kind n) c ⊎ MayCall cut (side_of cut kind n) c)

    -- both are of the view, or neither is
    same-side : views policy a named ≡ views policy a home → OwnOver
    same-side same = inl (λ e. ap side_if same)

    -- what an object of the view names is of it
    inside : views policy a home ≡ true → views policy home named ≡ true → OwnOver
    inside here on = same-side (views-then policy a home named here on ∙ sym here)

    -- an object of no domain of the view may hold what is harmless
    outside : views policy a home ≡ false → is_harmless c ≡ true → OwnOver
    outside away harmless = inr (inl (ap (λ (x : Bool). same_side (side_if x) Right) away, harmless))

    -- and no page of the view that its domain writes, since then that is of the view
    away-writes : views policy a home ≡ false → may_write policy home named ≡ true → (views policy a named ≡ true) ⊎ (views policy a named ≡ false) → OwnOver
    away-writes away writes (inl viewed) = let too = views-then policy a named home viewed (written-view policy named home writes) in absurd (cc (away, too))
    away-writes away writes (inr unviewed) = same-side (unviewed ∙ sym away)

    by-name : MayName policy home c → (views policy a home ≡ true) ⊎ (views policy a home ≡ false) → OwnOver
    by-name (Own same) side = same-side (ap (views policy a) same)
    by-name (Read harmless reads) (inl here) = inside here (reads-view policy home named reads)
    by-name (Read harmless reads) (inr away) = outside away harmless
    by-name (Written page writes) (inl here) = inside here (writes-view policy home named writes)
    by-name (Written page writes) (inr away) = away-writes away writes (cases_Bool (views policy a named))
    by-name (Shown page harmless writer) (inl here) = inside here (writer-view policy home named writer)
    by-name (Shown page harmless writer) (inr away) = outside away harmless

    view-held : MayStand policy home c → MayHold cut (side_of cut kind n) c
    view-held may = record { no_range = may.no_range; halting = λ k. refl; logging = λ k. refl; own = by (cases_Bool (is_counted c.kind)) }
      where
        by : (is_counted c.kind ≡ true) ⊎ (is_counted c.kind ≡ false) → OwnOver
        by (inr free) = inl (λ e. absurd (cc (free, e)))
        by (inl counted) = by-name (may.named counted) (cases_Bool (views policy a home))

  -- ---- a whole system

  pub holds-view : (w : System) → PolicyHolds policy w → Holds cut w
  holds-view w holds = let each = holds.each in record {
    each = record {
      slots = λ g i. view-held Gpt g _ (each.slots g i);
      cappages = λ n i. view-held CapPage n _ (each.cappages n i);
      capregs = λ p i. view-held Process p _ (each.capregs p i);
      process_slots = λ p i. view-held Process p _ (each.process_slots p i);
      recipients = λ e. view-held Endpoint e _ (each.recipients e);
    };
    sleepers = λ on. each_on cut (side_of cut Process on) (sleepers_of w.queues on) (λ p there. ap (λ (d : ℕ). side_if (views policy a d)) (holds.sleepers on p there));
    closed = record { calls = λ side e. refl; hears = λ side q. refl };
  }

-- the law of views as cuts
pub view_cut_law : ViewCutLaw
view_cut_law policy w holds a = holds-view policy a w holds
