-- Runs are lists of turns, and what depends on no place holds after both alike.
use Rattle.std.proofs.Common.{◌≡◌, ℕ, ◌+◌, ◌<◌, ◌≤◌, List, [], ◌∷◌, ◌++◌, length, refl, sym, ap, ap₂, ◌∙◌, subst, arith}
use Rattle.std.proofs.lemmas.List.{append-nil, map-append, length-append}
use Rattle.std.proofs.lemmas.List.Elements.{All-tail}
use Rattle.machine_state.specs.declared.event.Event.{Event}
use Rattle.machine_state.specs.declared.event.Event.TheVariants.{Step}
use Rattle.machine_state.specs.declared.record.Record.{Record}
use Rattle.machine_state.specs.Machine.{hart_in}
use Rattle.machine_state.specs.State.{State}
use Rattle.kernel_core.specs.Event.{event_of}
use Rattle.kernel_core.specs.Run.{run_state, run_records}
use Rattle.kernel_core.proofs.Ran.{run_state-append, run_records-append, run_state-nil}
use Rattle.preemption.specs.Wide.{Spread, IsForEach}
use Rattle.preemption.specs.Turns.{AreTurns, steps_of, InTurns, StaysWithin}
use Rattle.preemption.specs.Laws.{AreOf, RunLaw, SameButPlaces, NeverLaw}
use Rattle.preemption.proofs.Events.{event}
use Rattle.preemption.proofs.Nobody.{stuck}

-- ---- turns behind turns

steps-append : (ps qs : List ℕ) → steps_of (ps ++ qs) ≡ steps_of ps ++ steps_of qs
steps-append ps qs = map-append Step ps qs

-- the state after both
after-append : (w : State) (ps qs : List ℕ)
    → run_state w (steps_of (ps ++ qs)) ≡ run_state (run_state w (steps_of ps)) (steps_of qs)
after-append w ps qs = ap (run_state w) (steps-append ps qs)
    ∙ run_state-append w (steps_of ps) (steps_of qs)

told-append : (w : State) (ps qs : List ℕ)
    → run_records w (steps_of (ps ++ qs)) ≡ run_records w (steps_of ps) ++ run_records
    (run_state w (steps_of ps)) (steps_of qs)
told-append w ps qs = ap (run_records w) (steps-append ps qs)
    ∙ run_records-append w (steps_of ps) (steps_of qs)

turns-append : (w : State) (ps qs : List ℕ) → AreTurns w ps
    → AreTurns (run_state w (steps_of ps)) qs → AreTurns w (ps ++ qs)
unfolding run_state
turns-append w [] qs first then = then
turns-append w (p ∷ ps) qs first then =
    (first.0, turns-append (event_of w (Step p)).state ps qs first.1 then)

-- what stays so whatever turns are taken does after some of them, for as many as are left
stays-after : (most less many : ℕ) (w : State) (ps : List ℕ) → AreTurns w ps
    → length ps + less ≤ most → StaysWithin most many w
    → StaysWithin less many (run_state w (steps_of ps))
stays-after most less many w ps are left stays qs then short =
    subst (IsForEach many) (after-append w ps qs)
    (stays (ps ++ qs) (turns-append w ps qs are then)
    (omega (arith, length-append ps qs, left, short)))

-- ---- runs

-- so many events at most
pub run-within : (few many : ℕ) (s w : State) (es : List Event) → Spread few many s w
    → StaysWithin (length es) many w → AreOf few es → InTurns few many s es w
unfolding run_state run_records
run-within few many s w [] spread stays there =
    record { turns = []; of = tt; no_more = omega arith; records = refl; spread = spread }
run-within few many s w (e ∷ es) spread stays there =
    let one = event few many s w e spread
    (subst (IsForEach many) (run_state-nil w) (stays [] tt (omega arith)))
    (there 0 e (omega arith)) in
    let t = (event_of s e).state in
    let v = run_state w (steps_of one.turns) in
    let rest = run-within few many t v es one.spread
    (stays-after (length (e ∷ es)) (length es) many w one.turns one.of
    (omega (arith, one.no_more)) stays)
    (All-tail (λ (f : Event). hart_in f < few) e es there) in
    record {
      turns = one.turns ++ rest.turns;
      of = turns-append w one.turns rest.turns one.of rest.of;
      no_more = omega (arith, length-append one.turns rest.turns, one.no_more, rest.no_more);
      records = told-append w one.turns rest.turns
          ∙ ap₂ (λ (told more : List Record). told ++ more)
          (one.records ∙ append-nil (event_of s e).records) rest.records;
      spread = subst (Spread few many (run_state t es)) (sym (after-append w one.turns rest.turns))
          rest.spread;
    }

pub run : RunLaw
run few many s w es spread stays there =
    run-within few many s w es spread (λ ps are short. stays ps are) there

-- ---- tests

-- states that are spread are the same but for places
pub same-but-places : (few many : ℕ) (s w : State) → Spread few many s w → IsForEach many w
    → SameButPlaces s w
same-but-places few many s w spread each = let places = spread.places in record {
  items = sym (ap (λ (u : State). u.store.items) spread.same);
  contents = sym (ap (λ (u : State). u.store.contents) spread.same);
  sleepers = places.sleepers;
  halted = sym (ap (λ (u : State). u.halted) spread.same);
  queues = (places.queues ∙ each.queues, each.queues);
  stuck = stuck few many s w spread;
}

pub never : NeverLaw
never few many test s w spread stays sees none es there =
    let turns = run few many s w es spread stays there in
    sees (run_state s es) (run_state w (steps_of turns.turns))
    (same-but-places few many (run_state s es) (run_state w (steps_of turns.turns))
    turns.spread (stays turns.turns turns.of))
    ∙ none turns.turns turns.of
