-- Events that no process of the left performs: they do the same to two states side by side, and leave what is on the left as it
-- is.
use Rattle.std.proofs.Common.{◌≡◌, ℕ, Bool, true, false, not, cond, if◌then◌else◌, List, [], ◌∷◌, get_or, Option, Some, None, refl, sym, ◌∙◌, ap, ap₂, subst, length-set}
use Rattle.cap_format.specs.declared.kind.CapKind.TheVariants.{Process}
use Rattle.object_store.specs.Store.{Store}
use Rattle.schedules.specs.Queues.{QueuesValue, priorities, ready_queue, sleepers_of, hart_of, first_of, rest_of, highest_below, taken_from, dispatched_by, dispatched}
use Rattle.operations.specs.System.{System}
use Rattle.machine_state.specs.declared.event.Event.{Event}
use Rattle.machine_state.specs.declared.event.Event.TheVariants.{Step, Tick}
use Rattle.machine_state.specs.State.{State}
use Rattle.machine_state.specs.Setters.{dispatch}
use Rattle.machine_state.specs.Outcome.{done}
use Rattle.kernel_core.specs.Event.{stepped, tick_of, performer_by, event_by, event_of}
use Rattle.confinement.specs.declared.cut_side.CutSide.{CutSide}
use Rattle.confinement.specs.declared.cut_side.CutSide.TheVariants.{Left, Right}
use Rattle.confinement.specs.Cut.{Cut, side_of, same_side, AllOn}
use Rattle.confinement.specs.Acts.{others_in, other_on, SparesPlaces, system_of}
use Rattle.confinement.proofs.Sides.{same_side-true, same_side-tells}
use Rattle.confinement.proofs.Placing.{places-same}
use Rattle.confinement.proofs.Sleeping.{each_set, sleepers-dispatched}
use Rattle.independence.specs.Seclusion.{OnHarts, Secluded}
use Rattle.independence.specs.Laws.{IsOfOthers, LeftLaw, IsBlindTo, BlindLaw}
use Rattle.independence.proofs.Overlay.{Overlay, over_state, no_overlay, overlay, overlay-is}
use Rattle.independence.proofs.Beside.{beside-queues}
use Rattle.independence.proofs.Answering.{Run, run-now}
use Rattle.independence.proofs.States.{Both, both-ticked}
use Rattle.independence.proofs.Messaging.{Alike}
use Rattle.independence.proofs.Events.{alike-instruction}

module _ (cut : Cut) where
  -- ---- places

  -- among processes of the right nobody is of the left
  others-none : (ps : List ℕ) → AllOn cut Right ps → others_in cut Right ps ≡ []
  others-none [] all = refl
  others-none (p ∷ ps) all =
      ap (λ (b : Bool). cond (not b) (p ∷ others_in cut Right ps) (others_in cut Right ps)) (same_side-true (side_of cut Process p) Right all.0) ∙ others-none ps all.1

  -- and the other way round
  all-right : (ps : List ℕ) → others_in cut Right ps ≡ [] → AllOn cut Right ps
  all-right [] none = tt
  all-right (p ∷ ps) none = on (same_side (side_of cut Process p) Right) refl (λ rest. all-right ps rest) none
    where
      on : (b : Bool) → same_side (side_of cut Process p) Right ≡ b → (others_in cut Right ps ≡ [] → AllOn cut Right ps) → cond (not b) (p ∷ others_in cut Right ps) (others_in cut Right ps) ≡ [] → AllOn cut Right (p ∷ ps)
      on true e rest none = (same_side-tells (side_of cut Process p) Right e, rest none)
      on false e rest none = absurd (cc (none))

  -- a process of the left on a hart
  other-left : (p : ℕ) → side_of cut Process p ≡ Left → other_on cut Right (Some p) ≡ Some p
  other-left p left = ap (λ (side : CutSide). if same_side side Right then None else Some p) left

  other-some : (on : Option ℕ) (p : ℕ) → other_on cut Right on ≡ Some p → on ≡ Some p
  other-some None p e = absurd (cc (e))
  other-some (Some q) p e = by (same_side (side_of cut Process q) Right) e
    where
      by : (b : Bool) → (if b then None else Some q) ≡ Some p → Some q ≡ Some p
      by true e = absurd (cc (e))
      by false e = e

  first-none : (ps : List ℕ) → AllOn cut Right ps → other_on cut Right (first_of ps) ≡ None
  first-none [] all = refl
  first-none (p ∷ ps) all = ap (λ (b : Bool). if b then None else Some p) (same_side-true (side_of cut Process p) Right all.0)

  rest-right : (ps : List ℕ) → AllOn cut Right ps → AllOn cut Right (rest_of ps)
  rest-right [] all = tt
  rest-right (p ∷ ps) all = all.1

  -- a hart takes a process of the right, or has one
  places-dispatched : (q : QueuesValue) (hart : ℕ) → ((k : ℕ) → AllOn cut Right (ready_queue q k)) → SparesPlaces cut Right q (dispatched q hart)
  places-dispatched q hart ready = on (hart_of q hart) refl
    where
      taken : hart_of q hart ≡ None → (next : Option ℕ) → SparesPlaces cut Right q (taken_from q hart next)
      taken e None = places-same cut Right q
      taken e (Some k) = record {
        ready = each_set (λ (j : ℕ) (ps : List ℕ). others_in cut Right (ready_queue q j) ≡ others_in cut Right ps) q.ready k (rest_of (ready_queue q k)) []
            (others-none (ready_queue q k) (ready k) ∙ sym (others-none (rest_of (ready_queue q k)) (rest-right (ready_queue q k) (ready k)))) (λ j. refl);
        harts = each_set (λ (j : ℕ) (h : Option ℕ). other_on cut Right (hart_of q j) ≡ other_on cut Right h) q.harts hart (first_of (ready_queue q k)) None
            (ap (other_on cut Right) e ∙ sym (first-none (ready_queue q k) (ready k))) (λ j. refl);
        size = sym (length-set q.harts hart (first_of (ready_queue q k)));
      }

      on : (h : Option ℕ) → hart_of q hart ≡ h → SparesPlaces cut Right q (dispatched_by q hart h)
      on None e = taken e (highest_below q.ready priorities)
      on (Some x) e = places-same cut Right q

  -- where nobody of the left waits, and those of the left are on the same harts
  on_harts : (q r : QueuesValue) → OnHarts cut q → SparesPlaces cut Right q r → ((p : ℕ) → AllOn cut Right (sleepers_of r p)) → OnHarts cut r
  on_harts q r on places sleepers = record {
    ready = λ k. all-right (ready_queue r k) (sym (places.ready k) ∙ others-none (ready_queue q k) (on.ready k));
    sleepers = sleepers;
    there = λ p left. let old = on.there p left in record {
      hart = old.hart;
      there = other-some (hart_of r old.hart) p (sym (places.harts old.hart) ∙ (ap (other_on cut Right) old.there ∙ other-left p left));
    };
    once = λ p g h left first second. on.once p g h left (before p g left first) (before p h left second);
  }
    where
      before : (p h : ℕ) → side_of cut Process p ≡ Left → hart_of r h ≡ Some p → hart_of q h ≡ Some p
      before p h left there = other-some (hart_of q h) p (places.harts h ∙ (ap (other_on cut Right) there ∙ other-left p left))

module _ (cut : Cut) (f : Overlay cut) (s : State) (secluded : Secluded cut s) where
  abbrev start : System
  start = system_of s

  run : Run cut s.store
  run = secluded.running

  harts : OnHarts cut s.queues
  harts = secluded.harts

  -- a state and what is rewritten of it
  both-start : Both cut f start s (over_state cut f s)
  both-start = record {
    systems = record {
      apart = secluded.apart;
      sleepers = harts.sleepers;
      spares = λ kind n other. refl;
      places = places-same cut Right s.queues;
      store = refl;
      queues = refl;
    };
    halted = refl;
  }

  -- a hart takes a process
  both-dispatch : (hart : ℕ) → Both cut f start (dispatch s hart) (dispatch (over_state cut f s) hart)
  both-dispatch hart = record {
    systems = beside-queues cut f start start (system_of (over_state cut f s)) both-start.systems (dispatched s.queues hart) (dispatched s.queues hart) refl
        (λ n. subst (λ (xs : List (List ℕ)). AllOn cut Right (get_or xs n [])) (sym (sleepers-dispatched s.queues hart)) (harts.sleepers n))
        (places-dispatched cut s.queues hart harts.ready);
    halted = refl;
  }

  -- these are of others
  abbrev OthersBy : Option ℕ → Type 0
  OthersBy by = (p : ℕ) → by ≡ Some p → side_of cut Process p ≡ Right

  alike-stepped : (hart : ℕ) (by : Option ℕ) → OthersBy by → Alike cut f start (stepped (dispatch s hart) by) (stepped (dispatch (over_state cut f s) hart) by)
  alike-stepped hart None others = record { records = refl; state = both-dispatch hart }
  alike-stepped hart (Some p) others =
      alike-instruction cut f start run p (others p refl) (dispatch s hart) (dispatch (over_state cut f s) hart) (both-dispatch hart)

  alike-tick : (by : Option ℕ) → OthersBy by → Alike cut f start (tick_of s by) (tick_of (over_state cut f s) by)
  alike-tick None others = record { records = refl; state = both-start }
  alike-tick (Some p) others = record { records = refl; state = both-ticked cut f start p (others p refl) s (over_state cut f s) both-start }

  alike-by : (e : Event) → OthersBy (performer_by s e) → Alike cut f start (event_by s e) (event_by (over_state cut f s) e)
  unfolding event_by
  alike-by (Step hart) others = alike-stepped hart (performer_by s (Step hart)) others
  alike-by (Tick hart) others = alike-tick (performer_by s (Tick hart)) others

  -- an event of others
  pub alike-event : (e : Event) → IsOfOthers cut s e → Alike cut f start (event_of s e) (event_of (over_state cut f s) e)
  alike-event e others = on s.halted refl
    where
      on : (b : Bool) → s.halted ≡ b → Alike cut f start (if b then done s else event_by s e) (if b then done (over_state cut f s) else event_by (over_state cut f s) e)
      on true halted = record { records = refl; state = both-start }
      on false runs = alike-by e (λ p by. others p (ap (λ (b : Bool). if b then None else performer_by s e) runs ∙ by))

-- what is on the left is left as it was
pub left_law : LeftLaw
left_law cut s e secluded others =
    let alike = alike-event cut (no_overlay cut) s secluded e others in
    let both = alike.state in
    let beside = both.systems in
    record {
      secluded = record {
        apart = beside.apart;
        running = run-now cut (no_overlay cut) (system_of s) (system_of (event_of s e).state) (system_of (event_of (over_state cut (no_overlay cut) s) e).state) beside secluded.running;
        harts = on_harts cut s.queues (event_of s e).state.queues secluded.harts beside.places beside.sleepers;
      };
      spares = beside.spares;
      places = beside.places;
    }

-- two states with the same parts are one
state-is : (s t : State) → s.store ≡ t.store → s.queues ≡ t.queues → s.halted ≡ t.halted → s ≡ t
state-is s t store queues halted =
    ap₂ (λ (o : Store) (q : QueuesValue). record { store = o; queues = q; halted = s.halted }) store queues
    ∙ ap (λ (h : Bool). record { store = t.store; queues = t.queues; halted = h }) halted

-- and doesn't matter
pub blind_law : BlindLaw
blind_law cut s e rewrite secluded others own =
    let f = overlay cut rewrite own in
    let alike = alike-event cut f s secluded e others in
    let both = alike.state in
    let beside = both.systems in
    let t = (event_of s e).state in
    subst (λ (r : State). ((event_of r e).records ≡ (event_of s e).records) → ((event_of r e).state ≡ over_state cut f t) → IsBlindTo rewrite s e) (sym (overlay-is cut rewrite own s))
    (λ records state. record { records = records; state = state ∙ overlay-is cut rewrite own t })
    (sym alike.records) (state-is (event_of (over_state cut f s) e).state (over_state cut f t) beside.store beside.queues both.halted)

-- and a process of the left stays on its hart
pub keeps-harts : (cut : Cut) (s : State) (e : Event) → Secluded cut s → IsOfOthers cut s e → (hart p : ℕ) → side_of cut Process p ≡ Left → hart_of s.queues hart ≡ Some p
    → hart_of (event_of s e).state.queues hart ≡ Some p
keeps-harts cut s e secluded others hart p left on =
    let kept = left_law cut s e secluded others in
    let places = kept.places in
    other-some cut (hart_of (event_of s e).state.queues hart) p (sym (places.harts hart) ∙ (ap (other_on cut Right) on ∙ other-left cut p left))
