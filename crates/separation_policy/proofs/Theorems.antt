-- The theorems: those of authority and isolation, for what each domain may do and look at.
use Rattle.std.proofs.Common.{◌≡◌, ◌≢◌, ℕ, ◌==◌, ◌⊎◌, inl, inr, true, false, List, [], ◌∷◌, get_or, Option, Some, None, refl, sym, ◌∙◌, ap, subst, eqb-true}
use Rattle.std.proofs.lemmas.Bool.{cases_Bool, eq-eqb}
use Rattle.std.proofs.lemmas.Bool.Decides.{eqb_tells}
use Rattle.cap_format.specs.declared.kind.CapKind.{CapKind}
use Rattle.cap_format.specs.declared.kind.CapKind.TheVariants.{Process}
use Rattle.object_store.specs.Store.{Store}
use Rattle.object_store.specs.Object.{SameObject, object_at}
use Rattle.schedules.specs.Queues.{sleepers_of, stands_in}
use Rattle.operations.specs.System.{System}
use Rattle.machine_state.specs.declared.event.Event.{Event}
use Rattle.machine_state.specs.State.{State}
use Rattle.kernel_core.specs.Event.{performer, event_of}
use Rattle.kernel_core.specs.Run.{run_state}
use Rattle.confinement.specs.declared.cut_side.CutSide.TheVariants.{Left}
use Rattle.confinement.specs.Cut.{side_of}
use Rattle.confinement.specs.Acts.{system_of}
use Rattle.confinement.proofs.Runs.{event_kept}
use Rattle.confinement.specs.authority.Authority.{IsBounded}
use Rattle.confinement.specs.authority.Within.{may_change, StaysWithin}
use Rattle.confinement.specs.authority.Laws.{BoundsLaw, BesideLaw, AreApart}
use Rattle.confinement.specs.isolation.Agree.{Agree}
use Rattle.confinement.specs.isolation.Isolation.{AlikeRuns, Isolation}
use Rattle.separation_policy.specs.Policy.{PolicyValue, rest_domain, domain_of, EachMayStand, PolicyHolds, sees, own, seen, WritesItsOwn, TakeNoTurn, side_if, view_cut, SameFor, Views}
use Rattle.separation_policy.specs.Laws.{IntegrityLaw, OwnChangesLaw, NoninterferenceLaw}
use Rattle.separation_policy.proofs.Reading.{views-found, found-views}
use Rattle.separation_policy.proofs.Bounded.{authority_law}
use Rattle.separation_policy.proofs.Cuts.{one_side, holds-view}

-- ---- integrity

module _ (policy : PolicyValue) (bounds : BoundsLaw) (beside : BesideLaw) where
  abbrev AllBounded : State → Type 0
  AllBounded s = (a : ℕ) → IsBounded (own policy a) (system_of s) × IsBounded (seen policy a) (system_of s)

  all-bounded : (s : State) → PolicyHolds policy (system_of s) → AllBounded s
  all-bounded s holds = (authority_law policy (system_of s)).0 holds

  -- what a process does stays within what its domain may do
  stays : (s : State) (e : Event) (p : ℕ) → PolicyHolds policy (system_of s) → performer s e ≡ Some p → StaysWithin (own policy (domain_of policy Process p)) s (event_of s e).state
  stays s e p holds performs =
      let d = domain_of policy Process p in
      bounds (own policy d) s e p (all-bounded s holds d).0 performs (eq-eqb d d refl)

  -- what two domains have is apart
  apart-own : (d a : ℕ) → (d == a) ≡ false → AreApart (own policy d) (own policy a)
  apart-own d a other kind n here = ap (λ (x : ℕ). x == a) (eqb-true (domain_of policy kind n) d here) ∙ other

  -- and what a domain has from what one may look at that doesn't read it
  apart-seen : (d a : ℕ) → sees policy a d ≡ false → AreApart (own policy d) (seen policy a)
  apart-seen d a unseen kind n here = ap (sees policy a) (eqb-true (domain_of policy kind n) d here) ∙ unseen

  module _ (s : State) (e : Event) (p : ℕ) (holds : PolicyHolds policy (system_of s)) (performs : performer s e ≡ Some p) where
    abbrev home : ℕ
    home = domain_of policy Process p

    abbrev after : State
    after = (event_of s e).state

    own-after : (a : ℕ) → IsBounded (own policy a) (system_of after)
    own-after a = by (eqb_tells home a)
      where
        by : ((home == a) ≡ true) × (home ≡ a) ⊎ ((home == a) ≡ false) × (home ≢ a) → IsBounded (own policy a) (system_of after)
        by (inl same) = let within = stays s e p holds performs in
            subst (λ (d : ℕ). IsBounded (own policy d) (system_of after)) same.1 within.bounded
        by (inr other) = beside (own policy home) (own policy a) s after (apart-own home a other.0) (stays s e p holds performs) (all-bounded s holds a).0

    seen-after : (a : ℕ) → IsBounded (seen policy a) (system_of after)
    seen-after a = by (cases_Bool (sees policy a home))
      where
        by : (sees policy a home ≡ true) ⊎ (sees policy a home ≡ false) → IsBounded (seen policy a) (system_of after)
        by (inl saw) = let within = bounds (seen policy a) s e p (all-bounded s holds a).1 performs saw in within.bounded
        by (inr unseen) = beside (own policy home) (seen policy a) s after (apart-seen home a unseen) (stays s e p holds performs) (all-bounded s holds a).1

    performed-holds : PolicyHolds policy (system_of after)
    performed-holds = (authority_law policy (system_of after)).1 (λ a. (own-after a, seen-after a))

  -- where no object changes and no sleeper, the policy holds again
  idle-holds : (s t : State) → (t.store ≡ s.store) × (t.queues.sleepers ≡ s.queues.sleepers) → PolicyHolds policy (system_of s) → PolicyHolds policy (system_of t)
  idle-holds s t same holds = record {
    each = subst (λ (store : Store). EachMayStand policy store) (sym same.0) holds.each;
    sleepers = λ on p there. holds.sleepers on p (ap (λ (xs : List (List ℕ)). stands_in (get_or xs on []) p) (sym same.1) ∙ there);
  }

  -- the policy holds after each event
  policy-event : (s : State) (e : Event) → PolicyHolds policy (system_of s) → PolicyHolds policy (system_of (event_of s e).state)
  policy-event s e holds = by (performer s e) refl
    where
      by : (by : Option ℕ) → performer s e ≡ by → PolicyHolds policy (system_of (event_of s e).state)
      by None none =
          let kept = event_kept (view_cut policy rest_domain) s e (holds-view policy rest_domain (system_of s) holds) in
          idle-holds s (event_of s e).state (kept.idle none) holds
      by (Some p) performs = performed-holds s e p holds performs

  -- and after each run
  policy-run : (s : State) (es : List Event) → PolicyHolds policy (system_of s) → PolicyHolds policy (system_of (run_state s es))
  unfolding run_state
  policy-run s [] holds = holds
  policy-run s (e ∷ es) holds = policy-run (event_of s e).state es (policy-event s e holds)

  -- an event keeps what `WritesItsOwn` says
  event-writes : (s : State) (e : Event) → PolicyHolds policy (system_of s) → WritesItsOwn policy s e (event_of s e).state
  event-writes s e holds =
      let kept = event_kept (view_cut policy rest_domain) s e (holds-view policy rest_domain (system_of s) holds) in
      record {
        holds = policy-event s e holds;
        within = λ p performs. stays s e p holds performs;
        idle = kept.idle;
        still = kept.still;
        harts = kept.harts;
      }

  -- ---- over runs

  -- an event that nobody performs who may change an object leaves it
  event-same : (kind : CapKind) (n : ℕ) (s : State) (e : Event) (by : Option ℕ) → performer s e ≡ by → WritesItsOwn policy s e (event_of s e).state
      → ((p : ℕ) → performer s e ≡ Some p → may_change (own policy (domain_of policy Process p)) kind n ≡ false) → SameObject kind n s.store (event_of s e).state.store
  event-same kind n s e None is writes none = let same = writes.idle is in ap (λ (store : Store). object_at store kind n) (sym same.0)
  event-same kind n s e (Some p) is writes none = let within = writes.within p is in within.objects kind n (none p is)

  run-same : (kind : CapKind) (n : ℕ) (s : State) (es : List Event) → PolicyHolds policy (system_of s)
      → TakeNoTurn policy (λ d. may_change (own policy d) kind n) s es → SameObject kind n s.store (run_state s es).store
  unfolding run_state
  run-same kind n s [] holds none = refl
  run-same kind n s (e ∷ es) holds none =
      event-same kind n s e (performer s e) refl (event-writes s e holds) none.0 ∙ run-same kind n (event_of s e).state es (policy-event s e holds) none.1

  -- and who sleeps on a process
  event-asleep : (on : ℕ) (s : State) (e : Event) (by : Option ℕ) → performer s e ≡ by → WritesItsOwn policy s e (event_of s e).state
      → ((p : ℕ) → performer s e ≡ Some p → (domain_of policy Process on == domain_of policy Process p) ≡ false) → sleepers_of s.queues on ≡ sleepers_of (event_of s e).state.queues on
  event-asleep on s e None is writes none = let same = writes.idle is in ap (λ (xs : List (List ℕ)). get_or xs on []) (sym same.1)
  event-asleep on s e (Some p) is writes none = let within = writes.within p is in within.sleepers on (none p is)

  run-asleep : (on : ℕ) (s : State) (es : List Event) → PolicyHolds policy (system_of s)
      → TakeNoTurn policy (λ d. domain_of policy Process on == d) s es → sleepers_of s.queues on ≡ sleepers_of (run_state s es).queues on
  unfolding run_state
  run-asleep on s [] holds none = refl
  run-asleep on s (e ∷ es) holds none =
      event-asleep on s e (performer s e) refl (event-writes s e holds) none.0 ∙ run-asleep on (event_of s e).state es (policy-event s e holds) none.1

-- nobody changes what he may not write
pub integrity_law : BoundsLaw → BesideLaw → IntegrityLaw
integrity_law bounds beside policy s holds before e =
    event-writes policy bounds beside (run_state s before) e (policy-run policy bounds beside s before holds)

-- an object is changed by those alone who may
pub own_changes_law : BoundsLaw → BesideLaw → OwnChangesLaw
own_changes_law bounds beside policy s holds = record {
  objects = λ kind n es none. run-same policy bounds beside kind n s es holds none;
  sleepers = λ on es none. run-asleep policy bounds beside on s es holds none;
}

-- ---- noninterference

module _ (policy : PolicyValue) (a : ℕ) where
  -- an object is on the side of the view where its domain is of it
  side-views : (kind : CapKind) (n : ℕ) → side_of (view_cut policy a) kind n ≡ Left → Views policy a (domain_of policy kind n)
  side-views kind n same = found-views policy a _ (one_side _ _ same)

  views-side : (kind : CapKind) (n : ℕ) → Views policy a (domain_of policy kind n) → side_of (view_cut policy a) kind n ≡ Left
  views-side kind n viewed = ap side_if (views-found policy a _ viewed)

  same-agree : (w v : System) → SameFor policy a w v → Agree (view_cut policy a) Left w v
  same-agree w v same = record {
    same = λ kind n own. same.objects kind n (side-views kind n own);
    sleepers = λ p own. same.sleepers p (side-views Process p own);
    sizes = same.sizes;
  }

  agree-same : (w v : System) → Agree (view_cut policy a) Left w v → SameFor policy a w v
  agree-same w v agree = record {
    objects = λ kind n viewed. agree.same kind n (views-side kind n viewed);
    sleepers = λ p viewed. agree.sleepers p (views-side Process p viewed);
    sizes = agree.sizes;
  }

-- nobody sees beyond his view
pub noninterference_law : Isolation → NoninterferenceLaw
noninterference_law isolation policy s holds a t second same es fs turns =
    let cut = view_cut policy a in
    let alike : AlikeRuns cut Left s t es fs = isolation cut Left s t
    (record { own_alone = refl; first = holds-view policy a (system_of s) holds; second = second; agree = same-agree policy a (system_of s) (system_of t) same }) es fs turns in
    record { records = alike.records; ends = agree-same policy a _ _ alike.ends }
