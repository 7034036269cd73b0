use Rattle.std.proofs.Common.{◌+◌, ap, ◌∙◌, arith}
use Rattle.machine_state.specs.State.{State, state_of}
use Rattle.quiet_runs.specs.Finding.{quiet_steps}
use Rattle.quiet_finding.specs.Watched.{watch_of}
use Rattle.state_choices.specs.Slots.{reaching_slots, looks_slots}
use Rattle.state_choices.proofs.Quiet.{run-count, run-state}
use Rattle.state_choices.proofs.choosing.run.Goals as goal

pub returns-clause-tables : goal.returns-clause-tables
returns-clause-tables g c = c.go_on.ensures.tables ∙ c.perform.ensures.tables

pub returns-clause-count : goal.returns-clause-count
returns-clause-count g c =
    run-count (watch_of c.args.watched.now) c.args.hart (state_of c.args.states.now.machine) (state_of c.perform.new.self.machine) _
    c.in_ok-perform.ensures.state c.in_ok-more.ensures.count

pub returns-clause-state : goal.returns-clause-state
returns-clause-state g c =
    run-state (watch_of c.args.watched.now) c.args.hart (state_of c.args.states.now.machine) (state_of c.perform.new.self.machine) (state_of c.go_on.new.states.machine) _
    c.in_ok-perform.ensures.state c.in_ok-more.ensures.state

pub returns-in_err-more-clause-most : goal.returns-in_err-more-clause-most
returns-in_err-more-clause-most g c =
    let w = watch_of c.args.watched.now in
    let first = c.perform.ensures.most in
    let more = c.go_on.ensures.most in
    let same = ap (λ (t : State). reaching_slots t + looks_slots c.args.hart (quiet_steps w t c.args.hart) t) c.in_ok-perform.ensures.state in
    omega (arith, first, more, same)

pub returns-clause-most : goal.returns-clause-most
returns-clause-most g c =
    let w = watch_of c.args.watched.now in
    let first = c.perform.ensures.most in
    let more = c.go_on.ensures.most in
    let same = ap (λ (t : State). reaching_slots t + looks_slots c.args.hart (quiet_steps w t c.args.hart) t) c.in_ok-perform.ensures.state in
    omega (arith, first, more, same)
