-- From all states that a search over the wide machine comes to, to all runs of few harts.
use Rattle.std.proofs.Common.{◌≡◌, ℕ, zero, suc, ◌≤◌, ◌<◌, Bool, true, false, if◌then◌else◌, inl, inr, List, [], ◌∷◌, length, Option, Some, None, refl, sym, ◌∙◌, subst, subst₂, arith}
use Rattle.std.proofs.lemmas.List.{length-set}
use Rattle.schedules.specs.Queues.{QueuesValue, priorities, ready_queue, hart_of, first_of, highest_below, taken_from, dispatched_by, dispatched}
use Rattle.machine_state.specs.State.{State}
use Rattle.kernel_core.specs.Run.{run_state}
use Rattle.independence.proofs.Shape.{shape-sym}
use Rattle.quiet_runs.specs.Runs.{after_step, after_steps, after_runs}
use Rattle.quiet_runs.specs.Laws.{AreHarts, SimulationLaw}
use Rattle.preemption.specs.Wide.{Spread, IsForEach}
use Rattle.preemption.specs.Turns.{IsTurn, AreTurns, steps_of, StaysWithin}
use Rattle.preemption.specs.Begun.{at_rest}
use Rattle.preemption.specs.Searched.{Begin, StepsLaw, StepsWithinLaw, RunsLaw, RunsWithinLaw}
use Rattle.preemption.proofs.Taking.{within}
use Rattle.preemption.proofs.Runs.{run-within, same-but-places}
use Rattle.preemption.proofs.Beginning.{start, rest, idle-at, length-idle}
use Rattle.preemption.proofs.Seeing.{sees as sees-data}

-- ---- lists of steps

-- none
pub steps-none : (w : State) → after_steps w [] ≡ w
unfolding after_steps
steps-none w = refl

-- one, and more
pub steps-more : (w : State) (p : ℕ) (ps : List ℕ)
    → after_steps w (p ∷ ps) ≡ after_steps (after_step w p) ps
unfolding after_steps
steps-more w p ps = refl

-- they are events
pub steps-run : (w : State) (ps : List ℕ) → run_state w (steps_of ps) ≡ after_steps w ps
unfolding run_state after_steps
steps-run w [] = refl
steps-run w (p ∷ ps) = steps-run (after_step w p) ps

-- ---- turns are steps of harts that there are

-- a machine keeps its harts where one takes a process
length-taken : (q : QueuesValue) (hart : ℕ) (next : Option ℕ)
    → length (taken_from q hart next).harts ≡ length q.harts
length-taken q hart None = refl
length-taken q hart (Some k) = length-set q.harts hart (first_of (ready_queue q k))

length-dispatched : (q : QueuesValue) (hart : ℕ) (on : Option ℕ)
    → length (dispatched_by q hart on).harts ≡ length q.harts
length-dispatched q hart None = length-taken q hart (highest_below q.ready priorities)
length-dispatched q hart (Some p) = refl

pub turn-hart : (w : State) (p : ℕ) → IsTurn w p → p < length w.queues.harts
turn-hart w p turn = by w.halted turn
  where
    by : (b : Bool) → (if b then None else hart_of (dispatched w.queues p) p) ≡ Some p
        → p < length w.queues.harts
    by true e = cc
    by false e =
        let there = within (dispatched w.queues p).harts p p e in
        omega (arith, there, length-dispatched w.queues p (hart_of w.queues p))

module _ (many : ℕ) where
  -- what holds after so many steps at most
  abbrev After : ℕ → State → Type 0
  After most w = (harts : List ℕ) → AreHarts many harts → length harts ≤ most
      → IsForEach many (after_steps w harts)

  turns-are : (most : ℕ) (w : State) → After most w → (ps : List ℕ) → AreTurns w ps
      → length ps ≤ most → AreHarts many ps
  turns-are most w each [] are short = tt
  turns-are zero w each (p ∷ ps) are short = absurd (omega (arith, short))
  turns-are (suc most) w each (p ∷ ps) are short =
      let here = subst (IsForEach many) (steps-none w) (each [] tt (omega arith)) in
      let there : p < many = omega (arith, turn-hart w p are.0, here.harts) in (
        there,
        turns-are most (after_step w p)
            (λ harts all few. subst (IsForEach many) (steps-more w p harts)
            (each (p ∷ harts) (there, all) (omega (arith, few)))) ps are.1 (omega (arith, short)),
      )

  stays : (most : ℕ) (w : State) → After most w → StaysWithin most many w
  stays most w each ps are short = subst (IsForEach many) (sym (steps-run w ps))
      (each ps (turns-are most w each ps are short) short)

-- ---- where both begin

pub begin-spread : (few many : ℕ) (s w : State) → Begin few many s w → Spread few many s w
begin-spread few many s w (inl moved) =
    subst₂ (λ few w. Spread few many s w) moved.few_harts (sym moved.wide)
    (start many s moved.each)
begin-spread few many s w (inr idle) =
    let t = at_rest few w in
    subst₂ (λ s w. Spread few many s w) (sym idle.narrow) (sym idle.wide)
    (subst (λ few. Spread few many t (at_rest many w)) (length-idle few)
    (rest many t (idle-at few)))

-- ---- the laws

pub steps_within : StepsWithinLaw
steps_within few many most test s w begin sees safe es of short =
    let each : After many most w = λ harts all few. let is = safe harts all few in is.scheduled in
    let turns = run-within few many s w es (begin-spread few many s w begin)
    (λ ps are less. stays many most w each ps are (omega (arith, less, short))) of in
    let ps = turns.turns in
    let fewer : length ps ≤ most = omega (arith, turns.no_more, short) in
    let is = safe ps (turns-are many most w each ps turns.of fewer) fewer in
    let spread = subst (λ t. Spread few many (run_state s es) t) (steps-run w ps) turns.spread in
    sees (run_state s es) (after_steps w ps)
    (same-but-places few many (run_state s es) (after_steps w ps) spread is.scheduled)
    ∙ is.fails

pub steps : StepsLaw
steps few many test s w begin sees safe es of =
    steps_within few many (length es) test s w begin sees (λ harts all few. safe harts all) es of
    (omega arith)

pub runs_within : SimulationLaw → RunsWithinLaw
runs_within simulate few many most watch more test s w begin sees only quiet safe =
    steps_within few many most test s w begin sees (λ harts all few.
    let simulated = simulate many watch more quiet w harts all in
    let behind = simulated.behind in
    let same = behind.same in
    let before = after_steps w harts in
    let after = after_runs more w simulated.runs in
    let is = safe simulated.runs simulated.of (omega (arith, simulated.few, few)) in
    record {
      scheduled = sees-data many after before (shape-sym before after same.same) is.scheduled;
      fails = only before after same ∙ is.fails;
    })

pub runs : SimulationLaw → RunsLaw
runs simulate few many watch more test s w begin sees only quiet safe es of =
    runs_within simulate few many (length es) watch more test s w begin sees only quiet
    (λ runs all few. safe runs all) es of (omega arith)
