use Rattle.std.proofs.Common.{ap, ◌∙◌, get_or, set, arith}
use Rattle.std.proofs.lemmas.List.{get_or_default}
use Rattle.std.proofs.lemmas.List.Edits.{map_over_more}
use Rattle.separation_policy.specs.declared.policy.Domain.{Domain}
use Rattle.separation_policy.specs.Making.{domain_bare}
use Rattle.separation_policy.proofs.policy.forbid_all.Goals as goal

pub each-preserved : goal.each-preserved
each-preserved c =
    let domains = c.each.domains in
    let i = c.each.domain-index in
    let given = c.domain-item.result in
    let domain : Domain = get_or domains i given in
    ap (λ (d : Domain). set domains i d) c.forbid.ensures
    ∙ map_over_more domain_bare c.args.domains.now domains i domain c.each-test.true c.each.invariant (get_or_default domains i given domain (omega arith))
