use Rattle.std.proofs.Common.{subst}
use Rattle.kernel_core.specs.State.{state_of}
use Rattle.policy_lines.specs.Needed.{needed_value}
use Rattle.courses.specs.Ending.{Ends, Output}
use Rattle.courses.proofs.Lacking.{ends-memory}
use Rattle.separation_program.proofs.Lacking.{needed-memory}
use Rattle.separation_program.proofs.Needing.{tells-needed, told-found}
use Rattle.separation_program.proofs.Slots.{exact-read}
use Rattle.separation_program.proofs.least_lines.tell_least.Goals as goal

pub returns-clause-ends : goal.returns-clause-ends
returns-clause-ends g c = λ other.
    subst (λ (o : Output). Ends (g.K.Sink.taken c.args.output.now) (g.K.Sink.taken c.tell_needed.new.output) (g.K.Sink.faults c.args.output.now) (g.K.Sink.faults c.tell_needed.new.output) c.tell_needed.result o)
    (told-found c.args.policy.now (state_of c.args.machine.now) c.least.new.policy c.least.ensures.after (needed_value c.in-Ok.needed) c.in-Ok.ensures.value) c.tell_needed.ensures

pub returns-clause-tells : goal.returns-clause-tells
returns-clause-tells g c =
    tells-needed c.args.policy.now (state_of c.args.machine.now) c.integrity.ensures c.noninterference.ensures c.least.new.policy (needed_value c.in-Ok.needed) c.in-Ok.ensures.value c.in-Ok.ensures.least
    c.tell_needed.result c.tell_needed.ensures.given

pub returns-clause-fetched : goal.returns-clause-fetched
returns-clause-fetched g c = exact-read _ _ c.tell_needed.result _ c.in-Ok.ensures.counted

pub returns-clause-wanting : goal.returns-clause-wanting
returns-clause-wanting g c = λ lacks.
    absurd (ends-memory g.K.Sink.taken g.K.Sink.faults _ _ _ _ (needed-memory c.least.new.policy (needed_value c.in-Ok.needed)) c.tell_needed.ensures lacks)

-- memory was wanting to find them
pub returns-in_default-clause-wanting : goal.returns-in_default-clause-wanting
returns-in_default-clause-wanting g c = λ lacks. c.in_default.ensures.err
