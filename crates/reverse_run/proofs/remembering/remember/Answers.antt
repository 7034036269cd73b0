use Rattle.cap_format.specs.declared.kind.CapKind.TheVariants.{Process}
use Rattle.machine_state.specs.State.{state_of}
use Rattle.kernel_core.specs.Event.{event_of}
use Rattle.event_reach.specs.Reach.{names_of}
use Rattle.reverse_run.proofs.Keeping.{remembers_covered}
use Rattle.reverse_run.proofs.remembering.remember.Goals as goal

pub returns-clause-remembers : goal.returns-clause-remembers
returns-clause-remembers g c =
    let kept = c.keep_reach.ensures in
    remembers_covered c.keep_reach.new.past c.args.machine.now.objects (names_of c.reach_of_event-reach.result) (event_of (state_of c.args.machine.now) c.args.e).changed
    (λ n there. kept.more Process n (c.keep_processes.ensures.all n there)) kept.kept c.reach_of_event-reach.ensures.covers
