use Rattle.std.proofs.Common.{sym, ◌∙◌, ap}
use Rattle.separation_policy.specs.declared.domain_set.DomainSet.{DomainSet}
use Rattle.separation_policy.specs.DomainSet.{with_domain}
use Rattle.separation_policy.specs.Closure.{linked_by}
use Rattle.separation_policy.proofs.Closing.{linked-none, linked-more}
use Rattle.separation_policy.proofs.closure.linked.Goals as goal

pub each-init : goal.each-init
each-init c =
    c.with-row.ensures ∙ ap (λ (r : DomainSet). with_domain r c.args.a) c.reads.ensures ∙ sym (linked-none c.args.policy.now c.args.a)

pub each-preserved : goal.each-preserved
each-preserved c =
    c.with_link-row.ensures
    ∙ ap (λ (r : DomainSet). linked_by c.args.policy.now c.args.a c.each.k r) c.each.invariant
    ∙ sym (linked-more c.args.policy.now c.args.a c.each.k)
