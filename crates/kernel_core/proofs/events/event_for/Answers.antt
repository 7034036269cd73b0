use Rattle.std.proofs.Common.{◌≢◌, subst}
use Rattle.machine_state.specs.Machine.{hart_in}
use Rattle.machine_state.specs.State.{state_of}
use Rattle.machine_state.proofs.Less.{less_left}
use Rattle.kernel_core.specs.Event.{instruction}
use Rattle.kernel_core.proofs.events.event_for.Goals as goal

-- the process is on no other hart, and what its instruction leaves of another's cache holds no more than it
pub returns-in-Some-clause-less : goal.returns-in-Some-clause-less
returns-in-Some-clause-less g c =
    let t = g.T.Translator in
    let laws = g.met.T.Translator in
    let m = c.dispatch.new.self in
    λ k other.
    let elsewhere = c.tell_alone.ensures k (subst (λ e. k ≢ hart_in e) c.in-Step.is other) in
    subst (λ x. t.less (t.cache c.instruction.new.machine.translator k) (t.cache x k)) c.dispatch.ensures.translator
    (less_left t.after t.without t.spared t.purged t.less laws.less_same laws.less_then laws.spared_less laws.purged_less
    (t.kept m.translator) (instruction (state_of m) c.in-Some.p).touches (t.cache m.translator k) (t.cache c.instruction.new.machine.translator k)
    (c.instruction.ensures.came.others k elsewhere))
