use Rattle.std.proofs.Common.{subst}
use Rattle.machine_state.specs.State.{state_of}
use Rattle.confine_check.specs.Full.{AreFull}
use Rattle.confine_check.proofs.Found.{verdict_in-exactly}
use Rattle.confine_check.proofs.Broken.{verdict_in-first}
use Rattle.confine_check.proofs.laws.verdict_in_law.Goals as goal

pub returns-clause-exactly : goal.returns-clause-exactly
returns-clause-exactly g c = λ cut closed.
    let m = c.args.machine.now in
    verdict_in-exactly cut m.objects m.queues m.halted closed (subst AreFull c.objects.ensures c.tell_full.ensures)

pub returns-clause-first : goal.returns-clause-first
returns-clause-first g c = λ cut found closed is. verdict_in-first cut closed (state_of c.args.machine.now) found is
