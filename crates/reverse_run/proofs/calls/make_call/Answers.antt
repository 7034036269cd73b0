use Rattle.std.proofs.Common.{arith}
use Rattle.machine_state.specs.State.{state_of}
use Rattle.kernel_core.specs.Event.{event_of}
use Rattle.event_reach.proofs.Spent.{spent_walked}
use Rattle.reverse_run.proofs.calls.make_call.Goals as goal

pub returns-in-Perform-clause-most : goal.returns-in-Perform-clause-most
returns-in-Perform-clause-most g c =
    let t = g.T.Translator in
    let m = c.args.reversible.now.machine in
    λ walks.
    let fetched = c.event_into.ensures.fetched.most in
    let walked = spent_walked t.cost t.after t.without (t.kept m.translator) (event_of (state_of m) c.in-Perform.e).touches walks in
    rw c.in-Perform.is (omega (arith, fetched, walked))
