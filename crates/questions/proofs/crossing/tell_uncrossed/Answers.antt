use Rattle.std.proofs.Common.{subst}
use Rattle.machine_state.specs.State.{state_of}
use Rattle.confine_check.specs.Full.{AreFull}
use Rattle.separation_check.specs.Crossings.{crossings_in}
use Rattle.separation_check.proofs.Exactly.{crossings-exactly}
use Rattle.questions.proofs.Any.{none-any}
use Rattle.questions.proofs.crossing.tell_uncrossed.Goals as goal

pub returns : goal.returns
returns g c = λ holds.
    let m = c.args.machine.now in
    let policy = c.args.policy.now in
    let exactly = crossings-exactly policy m.objects m.queues (subst AreFull c.objects.ensures c.tell_full.ensures) in
    none-any (crossings_in policy (state_of m)) (exactly.1 holds)
