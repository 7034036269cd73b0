-- All that is told is told of one of both sides: an event that nobody performs tells nothing.
use Rattle.std.proofs.Common.{◌≡◌, ℕ, inl, inr, Bool, true, false, if◌then◌else◌, List, [], ◌∷◌, ◌++◌, Option, Some, None, refl, sym, ap, subst}
use Rattle.cap_format.specs.declared.kind.CapKind.TheVariants.{Process}
use Rattle.machine_state.specs.declared.event.Event.{Event}
use Rattle.machine_state.specs.declared.event.Event.TheVariants.{Step, Tick}
use Rattle.machine_state.specs.declared.record.Record.{Record}
use Rattle.machine_state.specs.State.{State}
use Rattle.machine_state.specs.Setters.{dispatch}
use Rattle.machine_state.specs.Outcome.{done}
use Rattle.kernel_core.specs.Event.{stepped, tick_of, performer_by, performer, event_by, event_of}
use Rattle.kernel_core.specs.Run.{run_records}
use Rattle.confinement.specs.declared.cut_side.CutSide.{CutSide}
use Rattle.confinement.specs.declared.cut_side.CutSide.TheVariants.{Left, Right}
use Rattle.confinement.specs.Cut.{Cut, side_of, same_side}
use Rattle.confinement.specs.isolation.Turns.{of_side, side_records}
use Rattle.confinement.specs.isolation.Laws.{IsMerged, AllTold}

-- ---- an event that nobody performs

idle-by : (s : State) (e : Event) → performer_by s e ≡ None → (event_by s e).records ≡ []
unfolding event_by
idle-by s (Step hart) h = ap (λ (on : Option ℕ). (stepped (dispatch s hart) on).records) h
idle-by s (Tick hart) h = ap (λ (on : Option ℕ). (tick_of s on).records) h

idle-told : (s : State) (e : Event) → performer s e ≡ None → (event_of s e).records ≡ []
idle-told s e h = on s.halted h
  where
    on : (b : Bool) → (if b then None else performer_by s e) ≡ None → (if b then done s else event_by s e).records ≡ []
    on true h = refl
    on false h = idle-by s e h

-- ---- merged lists

merged-first : {A : Type 0} (rs zs xs ys : List A) → IsMerged zs xs ys → IsMerged (rs ++ zs) (rs ++ xs) ys
merged-first [] zs xs ys m = m
merged-first (r ∷ rs) zs xs ys m = inl (rs ++ xs, refl, merged-first rs zs xs ys m)

merged-second : {A : Type 0} (rs zs xs ys : List A) → IsMerged zs xs ys → IsMerged (rs ++ zs) xs (rs ++ ys)
merged-second [] zs xs ys m = m
merged-second (r ∷ rs) zs xs ys m = inr (rs ++ ys, refl, merged-second rs zs xs ys m)

module _ (cut : Cut) where
  -- the records of one event in front
  merged-event : (by : Option ℕ) (rs zs xs ys : List Record) → (by ≡ None → rs ≡ []) → IsMerged zs xs ys
      → IsMerged (rs ++ zs) (of_side cut Left by (λ p. rs) ++ xs) (of_side cut Right by (λ p. rs) ++ ys)
  merged-event None rs zs xs ys none m = subst (λ (qs : List Record). IsMerged (qs ++ zs) xs ys) (sym (none refl)) m
  merged-event (Some p) rs zs xs ys none m = on (side_of cut Process p)
    where
      on : (side : CutSide) → IsMerged (rs ++ zs) ((if same_side side Left then rs else []) ++ xs) ((if same_side side Right then rs else []) ++ ys)
      on Left = merged-first rs zs xs ys m
      on Right = merged-second rs zs xs ys m

-- by induction on the events
pub all_told : AllTold
unfolding run_records side_records
all_told cut s [] = (refl, refl)
all_told cut s (e ∷ es) =
    let t = (event_of s e).state in
    merged-event cut (performer s e) (event_of s e).records (run_records t es) (side_records cut Left t es) (side_records cut Right t es) (idle-told s e) (all_told cut t es)
