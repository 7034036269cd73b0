-- What is left of a cache along runs, by one event more.
use Rattle.std.proofs.Common.{◌≡◌, ◌≢◌, ◌<◌, ◌+◌, ◌∙◌, ◌∷◌, ◌++◌, [], ℕ, Bool, true, false, ◌||◌, List, length, take, drop, refl, sym, ap, subst}
use Rattle.std.specs.List.{list_any}
use Rattle.std.proofs.Math.Seq.{take-add}
use Rattle.std.proofs.lemmas.Bool.{true≢false}
use Rattle.cap_format.specs.Capability.{Capability}
use Rattle.cap_format.specs.declared.item.Item.{Item}
use Rattle.object_store.specs.Store.{Items}
use Rattle.walk_meaning.specs.declared.kind.Kind.{Kind}
use Rattle.machine_state.specs.declared.event.Event.{Event}
use Rattle.machine_state.specs.Machine.{MachineValue, hart_in}
use Rattle.machine_state.specs.Outcome.{Touch, spared_by, is_change, ChangesNone}
use Rattle.machine_state.specs.Outcome.Touch.{DataAccess, CapAccess, GptCall, Changed}
use Rattle.machine_state.specs.State.{State, state_of}
use Rattle.kernel_core.specs.Event.{event_of}
use Rattle.kernel_core.specs.Run.{run_state, run_touches}
use Rattle.kernel_core.proofs.Ran.{run_touches-append}
use Rattle.untraced_steps.specs.Spared.{IsIdleIn, Elsewhere, spared_in, IsSpared, SparesOthers, GainsNothing}
use Rattle.untraced_steps.proofs.Ran.{take-next, touches-behind}

-- ---- events and touches in front of others

-- a hart that performs none of them performs none of the first
idle-front : (hart : ℕ) (first second : List Event) → IsIdleIn hart (first ++ second) → IsIdleIn hart first
idle-front hart [] second idle = tt
idle-front hart (e ∷ es) second idle = (idle.0, idle-front hart es second idle.1)

idle-last : (hart : ℕ) (first : List Event) (e : Event) → IsIdleIn hart (first ++ e ∷ []) → hart ≢ hart_in e
idle-last hart [] e idle = idle.0
idle-last hart (f ∷ fs) e idle = idle-last hart fs e idle.1

-- neither of two that are not so together
neither : (a b : Bool) → (a || b) ≡ false → (a ≡ false) × (b ≡ false)
neither true b is = absurd (true≢false is)
neither false b is = (refl, is)

none-front : (first second : List Touch) → ChangesNone (first ++ second) → ChangesNone first
none-front [] second none = refl
none-front (t ∷ ts) second none =
    let parts = neither (is_change t) (list_any is_change (ts ++ second)) none in
    rw parts.0 (none-front ts second parts.1)

none-back : (first second : List Touch) → ChangesNone (first ++ second) → ChangesNone second
none-back [] second none = none
none-back (t ∷ ts) second none = none-back ts second (neither (is_change t) (list_any is_change (ts ++ second)) none).1

-- ---- what is left of a cache

module _ {K C : Type 0} (after : K → Items → Capability → ℕ → Kind → K) (without : K → Item → K)
    (spared : K → Items → Capability → ℕ → Kind → C → C) (purged : K → Item → C → C) where
  spared_in-append : (first second : List (Elsewhere K)) (cache : C) → spared_in spared (first ++ second) cache ≡ spared_in spared second (spared_in spared first cache)
  spared_in-append [] second cache = refl
  spared_in-append (x ∷ xs) second cache = spared_in-append xs second (spared x.kept x.items x.space x.address x.kind cache)

  -- the accesses of data among touches
  accesses_in : K → List Touch → List (Elsewhere K)
  accesses_in k [] = []
  accesses_in k (DataAccess o space address kind ∷ ts) =
      record { kept = k; items = o; space = space; address = address; kind = kind } ∷ accesses_in (after k o space address kind) ts
  accesses_in k (CapAccess o space address kind ∷ ts) = accesses_in k ts
  accesses_in k (GptCall reads ∷ ts) = accesses_in k ts
  accesses_in k (Changed item ∷ ts) = accesses_in k ts

  spared_by-in : (k : K) (ts : List Touch) (cache : C) → ChangesNone ts → spared_by after without spared purged k ts cache ≡ spared_in spared (accesses_in k ts) cache
  unfolding accesses_in
  spared_by-in k [] cache none = refl
  spared_by-in k (DataAccess o space address kind ∷ ts) cache none = spared_by-in (after k o space address kind) ts (spared k o space address kind cache) none
  spared_by-in k (CapAccess o space address kind ∷ ts) cache none = spared_by-in k ts cache none
  spared_by-in k (GptCall reads ∷ ts) cache none = spared_by-in k ts cache none
  spared_by-in k (Changed item ∷ ts) cache none = absurd (true≢false none)

  -- and touches behind them
  pub spared-more : (a b d : C) (k : K) (ts : List Touch) → IsSpared spared a b → ChangesNone ts → d ≡ spared_by after without spared purged k ts b → IsSpared spared a d
  spared-more a b d k ts is none more = record {
    accesses = is.accesses ++ accesses_in k ts;
    left = more ∙ (spared_by-in k ts b none ∙ (ap (spared_in spared (accesses_in k ts)) is.left ∙ sym (spared_in-append is.accesses (accesses_in k ts) a)));
  }

  module _ {T : Type 0} (kept : T → K) (cache : T → ℕ → C) where
    -- no event
    pub spares-none : (m : MachineValue T) → SparesOthers cache spared [] m m
    spares-none m = record { each = λ hart idle none. record { accesses = []; left = refl } }

    -- some events in front of one, of which the machine knows that the caches of other harts stay, and one that is performed
    pub spares-next : (all : List Event) (done ahead : ℕ) (e : Event) (rest : List Event) (m n n1 n2 : MachineValue T)
        → done + ahead < length all → drop (done + ahead) all ≡ e ∷ rest
        → SparesOthers cache spared (take done all) m n
        → ((hart : ℕ) → hart ≢ hart_in e → cache n1.translator hart ≡ cache n.translator hart)
        → state_of n1 ≡ run_state (state_of m) (take (done + ahead) all)
        → ((hart : ℕ) → hart ≢ hart_in e → cache n2.translator hart ≡ spared_by after without spared purged (kept n1.translator) (event_of (state_of n1) e).touches (cache n1.translator hart))
        → SparesOthers cache spared (take (done + ahead + 1) all) m n2
    spares-next all done ahead e rest m n n1 n2 within is before caches at performed =
        let s : State = state_of m in
        let first = take done all in
        let ran = take (done + ahead) all in
        let touched = (event_of (state_of n1) e).touches in
        let in_front : ran ≡ first ++ take ahead (drop done all) = take-add done ahead all in
        let next : take (done + ahead + 1) all ≡ ran ++ e ∷ [] = take-next all (done + ahead) e rest within is in
        let touches : run_touches s (take (done + ahead + 1) all) ≡ run_touches s ran ++ touched =
        ap (run_touches s) next ∙ (touches-behind s ran e ∙ ap (λ (t : State). run_touches s ran ++ (event_of t e).touches) (sym at)) in
        let split : run_touches s ran ≡ run_touches s first ++ run_touches (run_state s first) (take ahead (drop done all)) =
        ap (run_touches s) in_front ∙ run_touches-append s first (take ahead (drop done all)) in
        record {
          each = λ hart idle none.
              let all_idle = subst (IsIdleIn hart) next idle in
              let ran_idle = idle-front hart ran (e ∷ []) all_idle in
              let first_idle = idle-front hart first (take ahead (drop done all)) (subst (IsIdleIn hart) in_front ran_idle) in
              let other = idle-last hart ran e all_idle in
              let none_all = subst ChangesNone touches none in
              let none_ran = none-front (run_touches s ran) touched none_all in
              let none_first = none-front (run_touches s first) (run_touches (run_state s first) (take ahead (drop done all))) (subst ChangesNone split none_ran) in
              let none_event = none-back (run_touches s ran) touched none_all in
              spared-more (cache m.translator hart) (cache n.translator hart) (cache n2.translator hart) (kept n1.translator) touched
              (before.each hart first_idle none_first) none_event
              (performed hart other ∙ ap (spared_by after without spared purged (kept n1.translator) touched) (caches hart other));
        }

-- ---- no cache gains

module _ {T C : Type 0} (cache : T → ℕ → C) (less : C → C → Type 0) (less_then : (a b c : C) → less a b → less b c → less a c) where
  -- some events in front of one, of which the machine knows that the caches of other harts stay, and one that is performed
  pub gains-next : (all : List Event) (done ahead : ℕ) (e : Event) (rest : List Event) (m n n1 n2 : MachineValue T)
      → done + ahead < length all → drop (done + ahead) all ≡ e ∷ rest
      → GainsNothing cache less (take done all) m n
      → ((hart : ℕ) → hart ≢ hart_in e → cache n1.translator hart ≡ cache n.translator hart)
      → ((hart : ℕ) → hart ≢ hart_in e → less (cache n2.translator hart) (cache n1.translator hart))
      → GainsNothing cache less (take (done + ahead + 1) all) m n2
  gains-next all done ahead e rest m n n1 n2 within is before caches performed = λ hart idle.
      let in_front : take (done + ahead) all ≡ take done all ++ take ahead (drop done all) = take-add done ahead all in
      let all_idle = subst (IsIdleIn hart) (take-next all (done + ahead) e rest within is) idle in
      let first_idle = idle-front hart (take done all) (take ahead (drop done all)) (subst (IsIdleIn hart) in_front (idle-front hart (take (done + ahead) all) (e ∷ []) all_idle)) in
      let other = idle-last hart (take (done + ahead) all) e all_idle in
      less_then (cache n2.translator hart) (cache n.translator hart) (cache m.translator hart)
      (subst (λ (c : C). less (cache n2.translator hart) c) (caches hart other) (performed hart other)) (before hart first_idle)
