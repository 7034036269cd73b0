-- One event of a machine with few harts is at most one turn in a wide one.
use Rattle.std.proofs.Common.{◌≡◌, ◌≢◌, ℕ, zero, suc, ◌<◌, Bool, true, false, if◌then◌else◌, List, [], ◌∷◌, ◌++◌, get_or, set, length, Option, Some, None, refl, sym, ap, ap₂, ◌∙◌, subst, subst₂, arith}
use Rattle.cap_format.specs.declared.kind.CapKind.{CapKind}
use Rattle.cap_format.specs.declared.kind.CapKind.TheVariants.{Schedule}
use Rattle.cap_format.specs.Capability.{Capability}
use Rattle.process_objects.specs.declared.state.State.TheVariants.{Running}
use Rattle.process_objects.specs.declared.state.State.{State as ProcessState}
use Rattle.process_objects.specs.Process.{ProcessValue, process_of, empty_process}
use Rattle.schedules.specs.Queues.{QueuesValue, priorities, ready_queue, hart_of, stands_in, first_of, enqueued, left, highest_below, taken_from, dispatched_by, dispatched}
use Rattle.schedules.specs.Ready.{readied_process, readied_queues, with_processes}
use Rattle.machine_state.specs.declared.event.Event.{Event}
use Rattle.machine_state.specs.declared.event.Event.TheVariants.{Step, Tick}
use Rattle.machine_state.specs.declared.record.Record.{Record}
use Rattle.machine_state.specs.Machine.{hart_in}
use Rattle.machine_state.specs.State.{State, IsOnHart, process, schedule_slot}
use Rattle.machine_state.specs.Setters.{set_queues, dispatch, ticked}
use Rattle.machine_state.specs.Outcome.{Outcome, done}
use Rattle.kernel_core.specs.Event.{instruction, stepped, tick_of, event_by, event_of}
use Rattle.kernel_core.specs.Run.{run_state, run_records}
use Rattle.preemption.specs.Places.{Thinned, Thins}
use Rattle.preemption.specs.Wide.{Spread, HasSchedule, IsForEach}
use Rattle.preemption.specs.Turns.{InTurns}
use Rattle.preemption.specs.Laws.{EventLaw}
use Rattle.preemption.proofs.Thinning.{first-stands}
use Rattle.preemption.proofs.Keeping.{thins-enqueued, thins-left, thins-asleep, thins-unslept}
use Rattle.preemption.proofs.Taking.{highest-full, highest-same, some-first, took, took-is, took-on, first-both, thins-taken, thins-both, thins-ticked}
use Rattle.preemption.proofs.Systems.{AreKept}
use Rattle.preemption.proofs.States.{Beside}
use Rattle.preemption.proofs.Instructions.{instruction-alike}

-- ---- events of any state

-- the step of a hart that has a process or takes it
pub event-step : (s : State) (hart p : ℕ) → s.halted ≡ false
    → hart_of (dispatched s.queues hart) hart ≡ Some p
    → event_of s (Step hart) ≡ instruction (dispatch s hart) p
unfolding event_by
event-step s hart p runs on = ap (λ halted. if halted then done s else event_by s (Step hart)) runs
    ∙ ap (stepped (dispatch s hart)) on

-- of a hart that has none and takes none
pub event-idle : (s : State) (hart : ℕ) → s.halted ≡ false
    → hart_of (dispatched s.queues hart) hart ≡ None
    → event_of s (Step hart) ≡ done (dispatch s hart)
unfolding event_by
event-idle s hart runs on = ap (λ halted. if halted then done s else event_by s (Step hart)) runs
    ∙ ap (stepped (dispatch s hart)) on

-- the tick of a hart
pub event-tick : (s : State) (hart : ℕ) (on : Option ℕ) → s.halted ≡ false
    → hart_of s.queues hart ≡ on → event_of s (Tick hart) ≡ tick_of s on
unfolding event_by
event-tick s hart on runs is = ap (λ halted. if halted then done s else event_by s (Tick hart))
    runs ∙ ap (tick_of s) is

-- an event of a machine that is halted
pub event-halted : (s : State) (e : Event) → s.halted ≡ true → event_of s e ≡ done s
event-halted s e halted = ap (λ (b : Bool). if b then done s else event_by s e) halted

-- the queues of a hart that has a process stay
pub dispatched-on : (q : QueuesValue) (hart p : ℕ) → hart_of q hart ≡ Some p
    → dispatched q hart ≡ q
dispatched-on q hart p on = ap (dispatched_by q hart) on

-- they stay where nobody is ready
pub dispatched-none : (q : QueuesValue) (hart : ℕ) → hart_of q hart ≡ None
    → highest_below q.ready priorities ≡ None → dispatched q hart ≡ q
dispatched-none q hart idle none = ap (dispatched_by q hart) idle ∙ ap (taken_from q hart) none

-- otherwise the first of the highest ready queue is taken
pub dispatched-took : (q : QueuesValue) (hart k p : ℕ) → hart_of q hart ≡ None
    → highest_below q.ready priorities ≡ Some k → first_of (ready_queue q k) ≡ Some p
    → dispatched q hart ≡ took q hart k p
dispatched-took q hart k p idle highest first = ap (dispatched_by q hart) idle
    ∙ (ap (taken_from q hart) highest ∙ took-is q hart k p first)

-- what stands in a list is put in its own place
pub set-same : {A : Type 0} (xs : List A) (i : ℕ) (d : A) → set xs i (get_or xs i d) ≡ xs
set-same [] i d = refl
set-same (x ∷ xs) zero d = refl
set-same (x ∷ xs) (suc i) d = ap (λ ys. x ∷ ys) (set-same xs i d)

-- a process that runs and has a schedule is as it was after it is made ready
readied-same : (kind : CapKind) (x : ProcessValue) → kind ≡ Schedule → x.state ≡ Running
    → readied_process kind x ≡ x
readied-same kind x is runs = ap (λ kind. readied_process kind x) is
    ∙ ap (λ (state : ProcessState). process_of x.pc x.regs x.capregs x.slots state) (sym runs)

-- so a tick changes its place alone
ticked-same : (s : State) (p : ℕ) → HasSchedule s p → (process s p).state ≡ Running
    → ticked s (Some p) ≡ set_queues s (enqueued (left s.queues p) (schedule_slot s p).object p)
ticked-same s p has runs =
    let c = schedule_slot s p in
    let processes = s.store.contents.processes in
    ap₂ (λ (xs : List ProcessValue) (q : QueuesValue). record {
      store = with_processes s.store xs;
      queues = q;
      halted = s.halted;
    })
    (ap (set processes p) (readied-same c.kind (process s p) has.kind runs)
    ∙ set-same processes p empty_process)
    (ap (λ kind. readied_queues kind c.object (left s.queues p) p) has.kind)

-- ---- places

-- each change of queues keeps them
pub places-kept : (few : ℕ) → AreKept (Thins few)
places-kept few = record {
  same_sleepers = λ n w t. t.sleepers;
  when_ready = λ n w priority p t. thins-enqueued few n w t priority p;
  when_asleep = λ n w p on t. thins-asleep few n w t p on;
  when_left = λ n w p t. thins-left few n w t p;
  when_woken = λ n w on t. thins-unslept few n w t on;
}

module _ (few many : ℕ) where
  abbrev Two : State → State → Type 0
  Two s w = Beside many (Thins few) (places-kept few) s w

  module _ (s w : State) (spread : Spread few many s w) where
    halted-too : w.halted ≡ s.halted
    halted-too = ap (λ (u : State). u.halted) spread.same

    -- ---- the two kinds of events

    -- an event that tells nothing, and after which the state is spread as before, is no turn
    no-turn : (e : Event) (o : Outcome) → event_of s e ≡ o → o.records ≡ []
        → Spread few many o.state w → InTurns few many s (e ∷ []) w
    unfolding run_state run_records
    no-turn e o is none after = record {
      turns = [];
      of = tt;
      no_more = omega arith;
      records = sym (ap (λ (u : Outcome). u.records ++ []) is
          ∙ ap (λ (rs : List Record). rs ++ []) none);
      spread = subst (λ (u : Outcome). Spread few many u.state w) (sym is) after;
    }

    -- and an instruction of process `p`, which has or takes its own hart in the wide machine, is
    -- its turn
    one-turn : (hart p : ℕ) → s.halted ≡ false
        → hart_of (dispatched s.queues hart) hart ≡ Some p
        → hart_of (dispatched w.queues p) p ≡ Some p
        → Thins few (dispatched s.queues hart) (dispatched w.queues p)
        → InTurns few many s (Step hart ∷ []) w
    unfolding run_state run_records
    one-turn hart p runs on home places =
        let beside : Two (dispatch s hart) (dispatch w p) =
        record {
          same = ap (λ u. set_queues u (dispatched w.queues p)) spread.same;
          queues = places;
        } in
        let alike = instruction-alike many (Thins few) (places-kept few) p (dispatch s hart)
        (dispatch w p) beside in
        let narrow = event-step s hart p runs on in
        let wide = event-step w p p (halted-too ∙ runs) home in
        record {
          turns = p ∷ [];
          of = (
            ap (λ halted. if halted then None else hart_of (dispatched w.queues p) p)
                (halted-too ∙ runs) ∙ home,
            tt,
          );
          no_more = omega arith;
          records = ap (λ (u : Outcome). u.records ++ []) wide
              ∙ (ap (λ (rs : List Record). rs ++ []) alike.records
              ∙ sym (ap (λ (u : Outcome). u.records ++ []) narrow));
          spread = subst₂ (λ (o u : Outcome). Spread few many o.state u.state) (sym narrow)
              (sym wide) (record { same = alike.state.same; places = alike.state.queues });
        }

    -- ---- steps

    -- who is on a hart is on its own in the wide machine
    at-home : (p : ℕ) → IsOnHart w.queues p → hart_of w.queues p ≡ Some p
    at-home p on = let places = spread.places
        in subst (λ hart. hart_of w.queues hart ≡ Some p) (places.home on.hart p on.there) on.there

    module _ (wide : IsForEach many w) (hart : ℕ) (there : hart < few) (runs : s.halted ≡ false)
      where
        -- a hart that has a process
        has-turn : (p : ℕ) → hart_of s.queues hart ≡ Some p → InTurns few many s (Step hart ∷ []) w
        has-turn p on =
            let places = spread.places in
            let home = at-home p (places.harts p (record { hart = hart; there = on })) in
            let narrow = dispatched-on s.queues hart p on in
            let same = dispatched-on w.queues p p home in
            one-turn hart p runs (ap (λ q. hart_of q hart) narrow ∙ on)
            (ap (λ q. hart_of q p) same ∙ home)
            (subst₂ (Thins few) (sym narrow) (sym same) places)

        -- a hart that takes one, by whether it is on its own in the wide machine
        module _ (k p : ℕ) (idle : hart_of s.queues hart ≡ None)
            (highest : highest_below s.queues.ready priorities ≡ Some k)
            (first : first_of (ready_queue s.queues k) ≡ Some p) where
          narrow-took : dispatched s.queues hart ≡ took s.queues hart k p
          narrow-took = dispatched-took s.queues hart k p idle highest first

          narrow-on : hart_of (dispatched s.queues hart) hart ≡ Some p
          narrow-on = let places = spread.places in ap (λ q. hart_of q hart) narrow-took
              ∙ took-on s.queues hart k p (omega (arith, there, places.few_harts))

          waited : hart_of w.queues p ≡ Some p → InTurns few many s (Step hart ∷ []) w
          waited home =
              let on : IsOnHart w.queues p = record { hart = p; there = home } in
              let absent = wide.ready k p on in
              let same = dispatched-on w.queues p p home in
              one-turn hart p runs narrow-on (ap (λ q. hart_of q p) same ∙ home)
              (subst₂ (Thins few) (sym narrow-took) (sym same)
              (thins-taken few s.queues w.queues spread.places hart k p idle there first on
              absent))

          -- there is a hart for a process that stands in a ready queue of the wide machine
          room : stands_in (ready_queue w.queues k) p ≡ true → p < length w.queues.harts
          room is = omega (arith, wide.each k p is, wide.harts)

          full-too : first_of (ready_queue w.queues k) ≡ Some p → ready_queue w.queues k ≢ []
          full-too first empty = absurd (some-none (sym first ∙ ap first_of empty))
            where
              some-none : Some p ≡ None → ⊥
              some-none e = cc

          both : hart_of w.queues p ≡ None → InTurns few many s (Step hart ∷ []) w
          both free =
              let places = spread.places in
              let none : IsOnHart w.queues p → ⊥ = λ on. not-both (sym (at-home p on) ∙ free) in
              let firsts = first-both few s.queues w.queues places hart k p idle there first
              none in
              let high = highest-same s.queues.ready w.queues.ready priorities k highest
              (λ j empty. subst (λ xs. Thinned (IsOnHart w.queues) xs (ready_queue w.queues j))
              empty (places.ready j)) (full-too firsts.0) in
              let within = room (first-stands p (ready_queue w.queues k) firsts.0) in
              let wide-took = dispatched-took w.queues p k p free high firsts.0 in
              one-turn hart p runs narrow-on
              (ap (λ q. hart_of q p) wide-took ∙ took-on w.queues p k p within)
              (subst₂ (Thins few) (sym narrow-took) (sym wide-took)
              (thins-both few s.queues w.queues places hart k p idle there first none free
              within))
            where
              not-both : Some p ≡ None → ⊥
              not-both e = cc

          takes-turn : (on : Option ℕ) → hart_of w.queues p ≡ on
              → InTurns few many s (Step hart ∷ []) w
          takes-turn None free = both free
          takes-turn (Some x) on =
              let places = spread.places in
              let same : p ≡ x = places.home p x on in
              waited (on ∙ ap Some (sym same))

        step-turn : (on next : Option ℕ) → hart_of s.queues hart ≡ on
            → highest_below s.queues.ready priorities ≡ next
            → InTurns few many s (Step hart ∷ []) w
        step-turn (Some p) next on highest = has-turn p on
        step-turn None None idle none =
            let same = dispatched-none s.queues hart idle none in
            no-turn (Step hart) (done (dispatch s hart))
            (event-idle s hart runs (ap (λ q. hart_of q hart) same ∙ idle)) refl
            (subst (λ q. Spread few many (set_queues s q) w) (sym same)
            (record { same = spread.same; places = spread.places }))
        step-turn None (Some k) idle highest =
            let first = some-first (ready_queue s.queues k)
            (highest-full s.queues.ready priorities k highest) in
            takes-turn k first.0 idle highest first.1 (hart_of w.queues first.0) refl

        -- ---- ticks

        tick-turn : (on : Option ℕ) → hart_of s.queues hart ≡ on
            → InTurns few many s (Tick hart ∷ []) w
        tick-turn None idle = no-turn (Tick hart) (tick_of s None)
            (event-tick s hart None runs idle)
            refl spread
        tick-turn (Some p) is =
            let places = spread.places in
            let on = places.harts p (record { hart = hart; there = is }) in
            let scheduled = wide.scheduled p on in
            let slot : schedule_slot w p ≡ schedule_slot s p =
            ap (λ u. schedule_slot u p) spread.same in
            let has : HasSchedule s p = record {
              kind = ap (λ (c : Capability). c.kind) (sym slot) ∙ scheduled.kind;
              priority = subst (λ (c : Capability). c.object < priorities) slot scheduled.priority;
            } in
            let running : (process s p).state ≡ Running =
            sym (ap (λ (u : State). (process u p).state) spread.same) ∙ wide.running p on in
            no-turn (Tick hart) (tick_of s (Some p)) (event-tick s hart (Some p) runs is) refl
            (subst (λ (u : State). Spread few many u w)
            (sym (ticked-same s p has running)) (record {
              same = spread.same;
              places = thins-ticked few s.queues w.queues places wide.queues p
                  (schedule_slot s p).object on has.priority
                  (λ j. wide.ready j p on) (λ j. wide.sleeps j p on);
            }))

    event-turn : IsForEach many w → (e : Event) → hart_in e < few → (halted : Bool)
        → s.halted ≡ halted → InTurns few many s (e ∷ []) w
    event-turn wide e there true is = no-turn e (done s) (event-halted s e is) refl spread
    event-turn wide (Step hart) there false is =
        step-turn wide hart there is (hart_of s.queues hart)
        (highest_below s.queues.ready priorities) refl refl
    event-turn wide (Tick hart) there false is =
        tick-turn wide hart there is (hart_of s.queues hart) refl

-- the law
pub event : EventLaw
event few many s w e spread wide there = event-turn few many s w spread wide e there s.halted refl
