use Rattle.machine_state.proofs.Kept.{kept_new}
use Rattle.machine_state.proofs.machine.Machine.new.Goals as goal

pub invariant_of-result : goal.invariant_of-result
invariant_of-result g c =
    (c.requires.coherent, c.requires.harts, rw (c.in_ok-queues.ensures, c.sizes.ensures.value) (kept_new c.args.objects c.requires.stopped c.requires.behind c.in_ranges.ensures.sized.processes))
