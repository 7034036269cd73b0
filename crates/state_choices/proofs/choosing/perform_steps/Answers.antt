use Rattle.std.proofs.Common.{◌≡◌, ◌∙◌, ◌-◌, ◌+◌, ℕ, suc, refl, sym, ap, arith}
use Rattle.machine_state.specs.State.{state_of}
use Rattle.state_choices.specs.Slots.{steps_slots}
use Rattle.state_choices.specs.Steps.{after_steps}
use Rattle.state_choices.proofs.Performed.{steps-more, steps-none}
use Rattle.state_choices.proofs.Slots.{steps_slots-next, steps_slots-one}
use Rattle.state_choices.proofs.choosing.perform_steps.Goals as goal

pub steps-init : goal.steps-init
steps-init g c =
    let all : c.args.times - 0 ≡ c.args.times = omega arith in
    let same = ap (λ (n : ℕ). steps_slots c.args.hart n (state_of c.args.states.now.machine)) all in
    record {
      tables = refl;
      state = ap (λ (n : ℕ). after_steps c.args.hart n (state_of c.args.states.now.machine)) all;
      least = omega arith;
      slots = omega (arith, same);
    }

pub steps-preserved : goal.steps-preserved
steps-preserved g c =
    let left : ℕ = c.args.times - (c.steps.performed + 1) in
    let more : suc left ≡ c.args.times - c.steps.performed = omega arith in
    let s = state_of c.steps.states.machine in
    let next = steps_slots-next c.args.hart c.args.times c.steps.performed s _ c.steps-test.true c.in_ok-perform.ensures.state in
    let least = c.perform.ensures.least in
    let read = c.perform.ensures.most in
    let first = c.steps.invariant.least in
    let before = c.steps.invariant.slots in
    record {
      tables = c.perform.ensures.tables ∙ c.steps.invariant.tables;
      state =
          steps-more c.args.hart left (state_of c.steps.states.machine) _ c.in_ok-perform.ensures.state
          ∙ ap (λ (n : ℕ). after_steps c.args.hart n (state_of c.steps.states.machine)) more ∙ c.steps.invariant.state;
      least = omega (arith, least, first);
      slots = omega (arith, read, before, next);
    }

pub returns-clause-state : goal.returns-clause-state
returns-clause-state g c =
    let none : c.args.times - c.steps.performed ≡ 0 = omega arith in
    sym (steps-none c.args.hart (state_of c.steps.states.machine))
    ∙ ap (λ (n : ℕ). after_steps c.args.hart n (state_of c.steps.states.machine)) (sym none) ∙ c.steps.invariant.state

pub returns-in_err-perform-clause-most : goal.returns-in_err-perform-clause-most
returns-in_err-perform-clause-most g c =
    let one = steps_slots-one c.args.hart c.args.times c.steps.performed (state_of c.steps.states.machine) c.steps-test.true in
    let read = c.perform.ensures.most in
    let before = c.steps.invariant.slots in
    omega (arith, one, read, before)

pub returns-clause-most : goal.returns-clause-most
returns-clause-most g c = let before = c.steps.invariant.slots in omega (arith, before)
