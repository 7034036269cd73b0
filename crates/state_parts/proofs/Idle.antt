-- Events that nobody performs, and whom a tick changes.
use Rattle.std.proofs.Common.{◌≡◌, ◌≢◌, ℕ, zero, suc, ◌<◌, ◌==◌, Bool, true, false, if◌then◌else◌, List, [], ◌∷◌, length, slice_index_or, Option, Some, None, refl, sym, ap, ◌∙◌, arith, eqb-true}
use Rattle.std.proofs.lemmas.List.{get_or-set_same}
use Rattle.cap_format.specs.declared.kind.CapKind.TheVariants.{Process}
use Rattle.object_store.specs.Object.{IsAmong}
use Rattle.schedules.specs.Queues.{QueuesValue, priorities, ready_queue, first_of, highest_below, taken_from, dispatched_by, dispatched, hart_of}
use Rattle.machine_state.specs.declared.event.Event.{Event}
use Rattle.machine_state.specs.declared.event.Event.TheVariants.{Step, Tick}
use Rattle.machine_state.specs.State.{State}
use Rattle.machine_state.specs.Setters.{set_queues, dispatch}
use Rattle.machine_state.specs.Outcome.{names_on, done}
use Rattle.kernel_core.specs.Event.{stepped, tick_of, performer_by, performer, event_by, event_of}
use Rattle.state_parts.specs.Shown.{begun}

-- ---- a hart that finds nobody

-- the queue that is found is not empty
found_first : (ready : List (List ℕ)) (n k : ℕ) → highest_below ready n ≡ Some k → first_of (slice_index_or ready k []) ≢ None
unfolding highest_below
found_first ready zero k is none = cc
found_first ready (suc n) k is none = on (slice_index_or ready n []) refl (found_first ready n k) is
  where
    here : (p : ℕ) (ps : List ℕ) → slice_index_or ready n [] ≡ p ∷ ps → Some n ≡ Some k → ⊥
    here p ps e found =
        let same : n ≡ k = cc in
        let first : first_of (slice_index_or ready k []) ≡ Some p = ap (λ (m : ℕ). first_of (slice_index_or ready m [])) (sym same) ∙ ap first_of e in
        let some : Some p ≡ None = sym first ∙ none in
        cc

    on : (ps : List ℕ) → slice_index_or ready n [] ≡ ps → (highest_below ready n ≡ Some k → first_of (slice_index_or ready k []) ≢ None)
        → (if length ps == 0 then highest_below ready n else Some n) ≡ Some k → ⊥
    on [] e rest found = rest found none
    on (p ∷ ps) e rest found = by (suc (length ps) == 0) refl found
      where
        by : (b : Bool) → (suc (length ps) == 0) ≡ b → (if b then highest_below ready n else Some n) ≡ Some k → ⊥
        by true empty found = let zero_is = eqb-true (suc (length ps)) 0 empty in absurd (omega (arith, zero_is))
        by false empty found = here p ps e found

-- where a hart that there is has nobody and finds nobody, all stand where they stood
dispatched_none : (q : QueuesValue) (hart : ℕ) → hart < length q.harts → hart_of (dispatched q hart) hart ≡ None → dispatched q hart ≡ q
dispatched_none q hart there none = on (hart_of q hart) none
  where
    taken : (next : Option ℕ) → highest_below q.ready priorities ≡ next → hart_of (taken_from q hart next) hart ≡ None → taken_from q hart next ≡ q
    taken None found none = refl
    taken (Some k) found none =
        absurd (found_first q.ready priorities k found (sym (get_or-set_same q.harts hart (first_of (ready_queue q k)) None there) ∙ none))

    on : (h : Option ℕ) → hart_of (dispatched_by q hart h) hart ≡ None → dispatched_by q hart h ≡ q
    on None none = taken (highest_below q.ready priorities) refl none
    on (Some p) none = refl

-- ---- events

module _ (s : State) where
  -- of a machine that is halted nothing comes
  pub nobody_halted : (e : Event) → s.halted ≡ true → event_of s e ≡ done s
  nobody_halted e halted = ap (λ (h : Bool). if h then done s else event_by s e) halted

  -- and nobody performs it
  pub performer_halted : (e : Event) → s.halted ≡ true → None ≡ performer s e
  performer_halted e halted = sym (ap (λ (h : Bool). if h then None else performer_by s e) halted)

  -- who performs an event of any other
  pub performer_goes : (e : Event) → s.halted ≡ false → performer_by s e ≡ performer s e
  performer_goes e goes = sym (ap (λ (h : Bool). if h then None else performer_by s e) goes)

  -- where a hart has nobody and finds nobody, nothing comes of its step
  pub nobody_steps : (hart : ℕ) → hart < length s.queues.harts → hart_of (dispatched s.queues hart) hart ≡ None → event_of s (Step hart) ≡ done s
  unfolding event_by
  nobody_steps hart there none = by s.halted
    where
      by : (h : Bool) → (if h then done s else stepped (dispatch s hart) (performer_by s (Step hart))) ≡ done s
      by true = refl
      by false = ap (stepped (dispatch s hart)) none ∙ ap (λ (q : QueuesValue). done (set_queues s q)) (dispatched_none s.queues hart there none)

  -- nor of its tick
  pub nobody_ticks : (hart : ℕ) → hart_of s.queues hart ≡ None → event_of s (Tick hart) ≡ done s
  unfolding event_by
  nobody_ticks hart none = by s.halted
    where
      by : (h : Bool) → (if h then done s else tick_of s (performer_by s (Tick hart))) ≡ done s
      by true = refl
      by false = ap (tick_of s) none

  -- a tick changes the process of its hart
  pub tick_names : (hart n : ℕ) → IsAmong Process n (event_of s (Tick hart)).changed → IsAmong Process n (names_on (hart_of s.queues hart))
  unfolding event_by
  tick_names hart n = by s.halted
    where
      by : (h : Bool) → IsAmong Process n (if h then done s else tick_of s (hart_of s.queues hart)).changed → IsAmong Process n (names_on (hart_of s.queues hart))
      by true none = elim none [ ]
      by false among = among

  -- a hart that has a process takes none
  pub begun_on : (hart p : ℕ) → hart_of s.queues hart ≡ Some p → begun s (Step hart) ≡ s
  begun_on hart p on = ap (λ (h : Option ℕ). set_queues s (dispatched_by s.queues hart h)) on
