-- Runs of events, one after the other.
use Rattle.std.proofs.Common.{◌≡◌, ◌+◌, ◌∙◌, ◌∷◌, ◌++◌, [], ℕ, List, refl, sym, ap, append-nil, arith}
use Rattle.cap_format.specs.Capability.{Capability}
use Rattle.cap_format.specs.declared.item.Item.{Item}
use Rattle.object_store.specs.Store.{Items, sizes_of}
use Rattle.walk_meaning.specs.declared.kind.Kind.{Kind}
use Rattle.machine_state.specs.declared.event.Event.{Event}
use Rattle.kernel_core.specs.Event.{event_of}
use Rattle.kernel_core.specs.Machine.{MachineValue}
use Rattle.kernel_core.specs.Outcome.{spent, kept_after}
use Rattle.kernel_core.proofs.Ran.{run_state-nil, run_state-cons, run_state-append, run_touches-nil, run_touches-cons, run_touches-append, spent-append, kept_after-append}
use Rattle.kernel_core.specs.Run.{run_state, run_touches}
use Rattle.kernel_core.specs.State.{State, state_of}
use Rattle.schedule_replay.specs.Replay.{Ran}

-- what one event is asked of its translator is what its run is
touches-one : (s : State) (event : Event) → run_touches s (event ∷ []) ≡ (event_of s event).touches
touches-one s event =
    run_touches-cons s event [] ∙ ap (λ more. (event_of s event).touches ++ more) (run_touches-nil (event_of s event).state)
    ∙ append-nil (event_of s event).touches

state-one : (s : State) (event : Event) → run_state s (event ∷ []) ≡ (event_of s event).state
state-one s event = run_state-cons s event [] ∙ run_state-nil (event_of s event).state

module _ {T K : Type 0} (kept : T → K) (cost : K → Items → Capability → ℕ → Kind → ℕ) (after : K → Items → Capability → ℕ → Kind → K) (without : K → Item → K) where
  -- none
  pub ran-none : (m : MachineValue T) (fetches : ℕ) → Ran kept cost after without m fetches m fetches []
  ran-none m fetches =
      let none = ap (spent cost after without (kept m.translator)) (run_touches-nil (state_of m)) in
      record {
        state = sym (run_state-nil (state_of m));
        counted = omega (arith, none);
        keeps = sym (ap (kept_after cost after without (kept m.translator)) (run_touches-nil (state_of m)));
        harts = refl;
        sizes = refl;
      }

  -- one
  pub ran-one : (m n : MachineValue T) (fetches fetches' : ℕ) (event : Event) → state_of n ≡ (event_of (state_of m) event).state
      → fetches' ≡ fetches + spent cost after without (kept m.translator) (event_of (state_of m) event).touches
      → kept n.translator ≡ kept_after cost after without (kept m.translator) (event_of (state_of m) event).touches → n.objects.harts ≡ m.objects.harts → sizes_of n.objects ≡ sizes_of m.objects
      → Ran kept cost after without m fetches n fetches' (event ∷ [])
  ran-one m n fetches fetches' event state counted keeps harts sizes = record {
    state = state ∙ sym (state-one (state_of m) event);
    counted = counted ∙ ap (λ touches. fetches + spent cost after without (kept m.translator) touches) (sym (touches-one (state_of m) event));
    keeps = keeps ∙ ap (kept_after cost after without (kept m.translator)) (sym (touches-one (state_of m) event));
    harts = harts;
    sizes = sizes;
  }

  -- some, and then others
  pub ran-trans : (l m n : MachineValue T) (f g h : ℕ) (first second : List Event) → Ran kept cost after without l f m g first → Ran kept cost after without m g n h second
      → Ran kept cost after without l f n h (first ++ second)
  ran-trans l m n f g h first second a b =
      let k : K = kept l.translator in
      let s : State = state_of l in
      let touches : run_touches s (first ++ second) ≡ run_touches s first ++ run_touches (state_of m) second =
      run_touches-append s first second ∙ ap (λ t. run_touches s first ++ run_touches t second) (sym a.state) in
      let sum : spent cost after without k (run_touches s (first ++ second))
      ≡ spent cost after without k (run_touches s first) + spent cost after without (kept m.translator) (run_touches (state_of m) second) =
      ap (spent cost after without k) touches ∙ spent-append cost after without k (run_touches s first) (run_touches (state_of m) second)
      ∙ ap (λ j. spent cost after without k (run_touches s first) + spent cost after without j (run_touches (state_of m) second)) (sym a.keeps) in
      let one = a.counted in
      let two = b.counted in
      record {
        state = b.state ∙ ap (λ t. run_state t second) a.state ∙ sym (run_state-append s first second);
        counted = omega (arith, sum, one, two);
        keeps =
            b.keeps ∙ ap (λ j. kept_after cost after without j (run_touches (state_of m) second)) a.keeps
            ∙ sym (kept_after-append cost after without k (run_touches s first) (run_touches (state_of m) second))
            ∙ ap (kept_after cost after without k) (sym touches);
        harts = b.harts ∙ a.harts;
        sizes = b.sizes ∙ a.sizes;
      }
