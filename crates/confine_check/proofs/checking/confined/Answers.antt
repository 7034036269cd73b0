use Rattle.std.proofs.Common.{sym, ap, subst, ◌∙◌}
use Rattle.machine_state.specs.State.{state_of}
use Rattle.confinement.specs.Cut.{side_in}
use Rattle.confinement.proofs.Own.{is-closed}
use Rattle.confinement.proofs.Runs.{separation}
use Rattle.confine_check.specs.Sides.{cut_of}
use Rattle.confine_check.specs.Full.{AreFull}
use Rattle.confine_check.specs.Found.{meant}
use Rattle.confine_check.proofs.Decided.{verdict_law}
use Rattle.confine_check.proofs.Found.{verdict-meant}
use Rattle.confine_check.proofs.checking.confined.Goals as goal

pub returns-clause-exactly : goal.returns-clause-exactly
returns-clause-exactly g c =
    let law = verdict_law (cut_of c.args.cut.now) c.args.machine.now.objects c.args.machine.now.queues (is-closed (side_in c.args.cut.now)) (subst AreFull c.objects.ensures c.tell_full.ensures) in
    (λ yes. law.0 (sym c.verdict.ensures.verdict ∙ yes), λ holds. c.verdict.ensures.verdict ∙ law.1 holds)

pub returns-clause-separated : goal.returns-clause-separated
returns-clause-separated g c = λ yes.
    let law = verdict_law (cut_of c.args.cut.now) c.args.machine.now.objects c.args.machine.now.queues (is-closed (side_in c.args.cut.now)) (subst AreFull c.objects.ensures c.tell_full.ensures) in
    separation (cut_of c.args.cut.now) (state_of c.args.machine.now) (law.0 (sym c.verdict.ensures.verdict ∙ yes))

pub returns-clause-means : goal.returns-clause-means
returns-clause-means g c =
    let m = c.args.machine.now in
    ap meant c.verdict.ensures.verdict ∙ sym (verdict-meant (cut_of c.args.cut.now) m.objects m.queues m.halted)
