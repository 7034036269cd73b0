use Rattle.std.proofs.Common.{sym, ◌∙◌, ap}
use Rattle.separation_policy.specs.declared.domain_set.DomainSet.{DomainSet}
use Rattle.separation_policy.specs.Closure.{writes_too}
use Rattle.separation_policy.proofs.Closing.{written_by-none, written_by-more}
use Rattle.separation_policy.proofs.closure.written_by.Goals as goal

pub each-init : goal.each-init
each-init c = c.empty-written.ensures ∙ sym (written_by-none c.args.policy.now c.args.writers)

pub each-preserved : goal.each-preserved
each-preserved c =
    c.with_written-written.ensures
    ∙ ap (λ (r : DomainSet). writes_too c.args.policy.now c.args.writers c.each.k r) c.each.invariant
    ∙ sym (written_by-more c.args.policy.now c.args.writers c.each.k)
