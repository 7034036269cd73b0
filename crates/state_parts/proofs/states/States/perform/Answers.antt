use Rattle.std.proofs.Common.{ap, arith}
use Rattle.machine_state.specs.State.{state_of}
use Rattle.state_parts.specs.Slots.{event_slots}
use Rattle.state_parts.specs.States.{StatesValue}
use Rattle.state_parts.proofs.states.States.perform.Goals as goal

pub returns-in_err-still-clause-most : goal.returns-in_err-still-clause-most
returns-in_err-still-clause-most g c =
    let read = c.perform.ensures.most in
    let view = ap (λ (v : StatesValue). event_slots (state_of v.machine) c.args.event) c.self.view_is in
    omega (arith, read, view)

pub returns-then-not-still-clause-most : goal.returns-then-not-still-clause-most
returns-then-not-still-clause-most g c =
    let read = c.perform.ensures.most in
    let view = ap (λ (v : StatesValue). event_slots (state_of v.machine) c.args.event) c.self.view_is in
    omega (arith, read, view)

pub returns-else-not-still-clause-most : goal.returns-else-not-still-clause-most
returns-else-not-still-clause-most g c =
    let read = c.perform.ensures.most in
    let view = ap (λ (v : StatesValue). event_slots (state_of v.machine) c.args.event) c.self.view_is in
    omega (arith, read, view)
