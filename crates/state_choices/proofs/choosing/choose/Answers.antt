use Rattle.std.proofs.Common.{ap, arith}
use Rattle.machine_state.specs.State.{state_of}
use Rattle.quiet_finding.specs.Watched.{watch_of}
use Rattle.state_choices.specs.Slots.{made_slots}
use Rattle.state_choices.proofs.Performed.{tick-chosen}
use Rattle.state_choices.proofs.choosing.choose.Goals as goal

pub returns-in_ok-perform-in-Tick-clause-state : goal.returns-in_ok-perform-in-Tick-clause-state
returns-in_ok-perform-in-Tick-clause-state g c =
    tick-chosen (watch_of c.args.watched.now) c.args.choice c.in-Tick.hart (state_of c.args.states.now.machine) (state_of c.perform.new.self.machine) c.in-Tick.is
    c.in_ok-perform-in-Tick.ensures.state

pub returns-in_err-perform_steps-in-Steps-clause-most : goal.returns-in_err-perform_steps-in-Steps-clause-most
returns-in_err-perform_steps-in-Steps-clause-most g c =
    let read = c.perform_steps.ensures.most in
    let made = ap (made_slots (watch_of c.args.watched.now) (state_of c.args.states.now.machine)) c.in-Steps.is in
    omega (arith, read, made)

pub returns-in_ok-perform_steps-in-Steps-clause-most : goal.returns-in_ok-perform_steps-in-Steps-clause-most
returns-in_ok-perform_steps-in-Steps-clause-most g c =
    let read = c.perform_steps.ensures.most in
    let made = ap (made_slots (watch_of c.args.watched.now) (state_of c.args.states.now.machine)) c.in-Steps.is in
    omega (arith, read, made)

pub returns-in_err-times-in-Run-clause-most : goal.returns-in_err-times-in-Run-clause-most
returns-in_err-times-in-Run-clause-most g c =
    let read = c.run.ensures.most in
    let made = ap (made_slots (watch_of c.args.watched.now) (state_of c.args.states.now.machine)) c.in-Run.is in
    omega (arith, read, made)

pub returns-in_ok-times-in-Run-clause-most : goal.returns-in_ok-times-in-Run-clause-most
returns-in_ok-times-in-Run-clause-most g c =
    let read = c.run.ensures.most in
    let made = ap (made_slots (watch_of c.args.watched.now) (state_of c.args.states.now.machine)) c.in-Run.is in
    omega (arith, read, made)

pub returns-in_err-perform-in-Tick-clause-most : goal.returns-in_err-perform-in-Tick-clause-most
returns-in_err-perform-in-Tick-clause-most g c =
    let read = c.perform.ensures.most in
    let made = ap (made_slots (watch_of c.args.watched.now) (state_of c.args.states.now.machine)) c.in-Tick.is in
    omega (arith, read, made)

pub returns-in_ok-perform-in-Tick-clause-most : goal.returns-in_ok-perform-in-Tick-clause-most
returns-in_ok-perform-in-Tick-clause-most g c =
    let read = c.perform.ensures.most in
    let made = ap (made_slots (watch_of c.args.watched.now) (state_of c.args.states.now.machine)) c.in-Tick.is in
    omega (arith, read, made)
