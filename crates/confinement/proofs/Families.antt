-- Sets that have no object in common, over whole runs.
use Rattle.std.proofs.Common.{◌≡◌, ◌≢◌, ℕ, ◌==◌, ◌⊎◌, inl, inr, true, false, List, [], ◌∷◌, get_or, Option, Some, None, refl, sym, ◌∙◌, ap, subst}
use Rattle.std.proofs.lemmas.Bool.Decides.{eqb_tells}
use Rattle.object_store.specs.Store.{Store}
use Rattle.schedules.specs.Queues.{stands_in}
use Rattle.machine_state.specs.declared.event.Event.{Event}
use Rattle.machine_state.specs.State.{State}
use Rattle.kernel_core.specs.Event.{performer, event_of}
use Rattle.kernel_core.specs.Run.{run_state}
use Rattle.confinement.specs.Acts.{system_of}
use Rattle.confinement.proofs.Runs.{Idles, event-idle}
use Rattle.confinement.specs.authority.Authority.{Authority, EachGranted, IsBounded}
use Rattle.confinement.specs.authority.Within.{StaysWithin}
use Rattle.confinement.specs.authority.Laws.{AreSets, KeepsBounds, FamilyLaw}
use Rattle.confinement.proofs.Bounding.{bounds_law, beside_law}

-- where nobody does anything a bounded set stays so
idle-bounded : (a : Authority) (s t : State) → Idles s t → IsBounded a (system_of s) → IsBounded a (system_of t)
idle-bounded a s t same bounded = record {
  each = subst (λ (store : Store). EachGranted a store) (sym same.store) bounded.each;
  sleepers = λ on p there. bounded.sleepers on p (ap (λ (xs : List (List ℕ)). stands_in (get_or xs on []) p) (sym same.sleepers) ∙ there);
}

module _ (sets : ℕ → Authority) (home : ℕ → ℕ) (are : AreSets sets home) where
  abbrev AllBounded : State → Type 0
  AllBounded s = (i : ℕ) → IsBounded (sets i) (system_of s)

  -- what a process does stays within its set
  stays : (s : State) (e : Event) (p : ℕ) → AllBounded s → performer s e ≡ Some p → StaysWithin (sets (home p)) s (event_of s e).state
  stays s e p bounded performs = bounds_law (sets (home p)) s e p (bounded (home p)) performs (are.at_home p)

  bounded-by : (s : State) (e : Event) → AllBounded s → (by : Option ℕ) → performer s e ≡ by → AllBounded (event_of s e).state
  bounded-by s e bounded None is i = idle-bounded (sets i) s (event_of s e).state (event-idle s e is) (bounded i)
  bounded-by s e bounded (Some p) is i = on (eqb_tells (home p) i)
    where
      on : ((home p == i) ≡ true) × (home p ≡ i) ⊎ ((home p == i) ≡ false) × (home p ≢ i) → IsBounded (sets i) (system_of (event_of s e).state)
      on (inl same) = let within = stays s e p bounded is in
          subst (λ (j : ℕ). IsBounded (sets j) (system_of (event_of s e).state)) same.1 within.bounded
      on (inr other) = beside_law (sets (home p)) (sets i) s (event_of s e).state (are.apart (home p) i other.1) (stays s e p bounded is) (bounded i)

  -- each event
  pub event-bounded : (s : State) (e : Event) → AllBounded s → AllBounded (event_of s e).state
  event-bounded s e bounded = bounded-by s e bounded (performer s e) refl

  -- and each run
  pub run-bounded : (s : State) (es : List Event) → AllBounded s → AllBounded (run_state s es)
  unfolding run_state
  run-bounded s [] bounded = bounded
  run-bounded s (e ∷ es) bounded = run-bounded (event_of s e).state es (event-bounded s e bounded)

  -- what each event keeps
  pub event-keeps : (s : State) (e : Event) → AllBounded s → KeepsBounds sets home s e (event_of s e).state
  event-keeps s e bounded = record {
    bounded = event-bounded s e bounded;
    within = λ p performs. stays s e p bounded performs;
    idle = λ none. let same = event-idle s e none in (same.store, same.sleepers);
  }

-- the law of families
pub family_law : FamilyLaw
family_law sets home s are bounded before e =
    event-keeps sets home are (run_state s before) e (run-bounded sets home are s before bounded)
