-- From all states to which choices of processes lead, to all runs of few harts.
use Rattle.std.proofs.Common.{◌≡◌, ℕ, zero, suc, ◌≤◌, ◌<◌, Bool, true, if◌then◌else◌, List, [], ◌∷◌, length, Option, None, refl, sym, ◌∙◌, ap, subst, arith}
use Rattle.std.proofs.lemmas.Bool.{eq-eqb}
use Rattle.schedules.specs.Queues.{QueuesValue, hart_of, dispatched}
use Rattle.machine_state.specs.declared.event.Event.TheVariants.{Step}
use Rattle.machine_state.specs.State.{State}
use Rattle.kernel_core.specs.Event.{performer_by}
use Rattle.kernel_core.specs.Run.{run_state}
use Rattle.independence.specs.Rewrite.{SameButData}
use Rattle.independence.proofs.Shape.{shape-sym}
use Rattle.quiet_runs.specs.Begun.{UnderWay, none_under_way, stepped, on_step}
use Rattle.quiet_runs.specs.Finding.{has_process}
use Rattle.quiet_runs.specs.Laws.{AreHarts}
use Rattle.quiet_runs.specs.Runs.{Watch, RunsAreQuiet, SeesOnly, after_step, after_steps, after_run}
use Rattle.quiet_runs.proofs.Simulating.{Behind, behind-none, is_behind, next}
use Rattle.preemption.specs.Laws.{SeesNoPlaces}
use Rattle.preemption.specs.Wide.{IsForEach}
use Rattle.preemption.specs.Turns.{IsTurn, AreTurns, steps_of}
use Rattle.preemption.specs.Searched.{Begin, IsSafe, HoldsAfterNone, has_turn, after_turns, after_turn_runs, TurnsLaw, TurnsWithinLaw, TurnRunsLaw, TurnRunsWithinLaw}
use Rattle.preemption.proofs.Runs.{run-within, same-but-places}
use Rattle.preemption.proofs.Searching.{steps-none, steps-more, steps-run, turn-hart, begin-spread}
use Rattle.preemption.proofs.Seeing.{sees as sees-data}

-- ---- who has a turn

-- who performs the step of his hart has one
turn-had : (s : State) (p : ℕ) → IsTurn s p → has_turn s p ≡ true
turn-had s p turn = ap (λ (on : Option ℕ). has_process on p) turn ∙ eq-eqb p p refl

-- so being chosen is taking it
turn-taken : (s : State) (p : ℕ) (t : State) → IsTurn s p → (if has_turn s p then t else s) ≡ t
turn-taken s p t turn = ap (λ (b : Bool). if b then t else s) (turn-had s p turn)

-- who performs a step depends on no data
turn-too : (s t : State) (p : ℕ) → SameButData s t → IsTurn s p → IsTurn t p
turn-too s t p same turn =
    ap (λ (b : Bool). if b then None else performer_by t (Step p)) (sym same.halted)
    ∙ (ap (λ (q : QueuesValue). if s.halted then None else by q) (sym same.queues) ∙ turn)
  where
    by : QueuesValue → Option ℕ
    by q = hart_of (dispatched q p) p

module _ (many : ℕ) (test : State → Bool) where
  -- ---- steps

  -- so many choices at most lead to safe states
  abbrev Turning : ℕ → State → Type 0
  Turning most w = (ps : List ℕ) → AreHarts many ps → length ps ≤ most
      → IsSafe many test (after_turns w ps)

  -- turns are choices: they are of harts that there are, and lead to a safe state
  turned : (most : ℕ) (w : State) → Turning most w → (ps : List ℕ) → AreTurns w ps
      → length ps ≤ most → IsSafe many test (after_steps w ps)
  turned most w safe [] are short =
      subst (IsSafe many test) (sym (steps-none w)) (safe [] tt (omega arith))
  turned zero w safe (p ∷ ps) are short = absurd (omega (arith, short))
  turned (suc most) w safe (p ∷ ps) are short =
      let here = safe [] tt (omega arith) in
      let there : p < many = omega (arith, turn-hart w p are.0, here.scheduled.harts) in
      subst (IsSafe many test) (sym (steps-more w p ps))
      (turned most (after_step w p)
      (λ qs all few. subst (λ (t : State). IsSafe many test (after_turns t qs))
      (turn-taken w p (after_step w p) are.0) (safe (p ∷ qs) (there, all) (omega (arith, few))))
      ps are.1 (omega (arith, short)))

  -- ---- runs

  module _ (watch : Watch) (more : State → ℕ → ℕ) (quiet : RunsAreQuiet watch more)
      (only : SeesOnly watch test) where
    abbrev Running : ℕ → State → Type 0
    Running most w = (ps : List ℕ) → AreHarts many ps → length ps ≤ most
        → IsSafe many test (after_turn_runs more w ps)

    -- a state behind a safe one is safe
    safe-behind : (s : State) (u : UnderWay) → Behind many watch more quiet s u
        → IsSafe many test u.state → IsSafe many test s
    safe-behind s u behind safe =
        let same = (is_behind many watch more quiet s u behind).same in record {
          scheduled = sees-data many u.state s (shape-sym s u.state same.same) safe.scheduled;
          fails = only s u.state same ∙ safe.fails;
        }

    -- turns begin runs at choices that have a turn, so they lead to a safe state
    run : (most : ℕ) (s : State) (u : UnderWay) → Behind many watch more quiet s u
        → Running most u.state → (ps : List ℕ) → AreTurns s ps → length ps ≤ most
        → IsSafe many test (after_steps s ps)
    run most s u behind safe [] are short =
        subst (IsSafe many test) (sym (steps-none s))
        (safe-behind s u behind (safe [] tt (omega arith)))
    run zero s u behind safe (p ∷ ps) are short = absurd (omega (arith, short))
    run (suc most) s u behind safe (p ∷ ps) are short =
        let here = safe-behind s u behind (safe [] tt (omega arith)) in
        let there : p < many = omega (arith, turn-hart s p are.0, here.scheduled.harts) in
        let same = (is_behind many watch more quiet s u behind).same in
        subst (IsSafe many test) (sym (steps-more s p ps))
        (run most (after_step s p) (on_step more u p)
        (next many watch more quiet s u p there behind)
        (on there (turn-too s u.state p same.same are.0) (u.left p))
        ps are.1 (omega (arith, short)))
      where
        on : p < many → IsTurn u.state p → (n : ℕ) → Running most (stepped more u p n).state
        on there turn zero = λ qs all few.
            subst (λ (t : State). IsSafe many test (after_turn_runs more t qs))
            (turn-taken u.state p (after_run more u.state p) turn)
            (safe (p ∷ qs) (there, all) (omega (arith, few)))
        on there turn (suc n) = λ qs all few. safe qs all (omega (arith, few))

-- ---- the laws

-- what is safe after all turns of the wide machine is safe after all events of the few harts
from-turns : (few many most : ℕ) (test : State → Bool) (s w : State) → Begin few many s w
    → SeesNoPlaces test
    → ((ps : List ℕ) → AreTurns w ps → length ps ≤ most → IsSafe many test (after_steps w ps))
    → HoldsAfterNone few most test s
from-turns few many most test s w begin sees safe es of short =
    let turns = run-within few many s w es (begin-spread few many s w begin)
    (λ ps are less. let is = safe ps are (omega (arith, less, short)) in
    subst (IsForEach many) (sym (steps-run w ps)) is.scheduled) of in
    let ps = turns.turns in
    let is = safe ps turns.of (omega (arith, turns.no_more, short)) in
    sees (run_state s es) (run_state w (steps_of ps))
    (same-but-places few many (run_state s es) (run_state w (steps_of ps)) turns.spread
    (subst (IsForEach many) (sym (steps-run w ps)) is.scheduled))
    ∙ (ap test (steps-run w ps) ∙ is.fails)

pub turns_within : TurnsWithinLaw
turns_within few many most test s w begin sees safe =
    from-turns few many most test s w begin sees (turned many test most w safe)

pub turns : TurnsLaw
turns few many test s w begin sees safe es of =
    turns_within few many (length es) test s w begin sees (λ ps all few. safe ps all) es of
    (omega arith)

pub turn_runs_within : TurnRunsWithinLaw
turn_runs_within few many most watch more test s w begin sees only quiet safe =
    from-turns few many most test s w begin sees
    (run many test watch more quiet only most w (none_under_way w)
    (behind-none many watch more quiet w) safe)

pub turn_runs : TurnRunsLaw
turn_runs few many watch more test s w begin sees only quiet safe es of =
    turn_runs_within few many (length es) watch more test s w begin sees only quiet
    (λ ps all few. safe ps all) es of (omega arith)
