use Rattle.std.proofs.Common.{ap, ◌∙◌, get_or, set, arith}
use Rattle.std.proofs.lemmas.List.{get_or_default}
use Rattle.std.proofs.lemmas.List.Edits.{map_over_more}
use Rattle.separation_policy.specs.declared.domain_set.DomainSet.{DomainSet}
use Rattle.separation_policy.specs.DomainSet.{no_domains}
use Rattle.separation_policy.specs.Closure.{passed_by}
use Rattle.separation_policy.proofs.closure.pass.Goals as goal

pub each-preserved : goal.each-preserved
each-preserved c =
    let rows = c.each.rows in
    let a = c.each.row-index in
    let row : DomainSet = get_or rows a no_domains in
    ap (λ (r : DomainSet). set rows a r) c.passed_by.ensures
    ∙ map_over_more (passed_by c.args.k (get_or c.args.rows.now c.args.k no_domains)) c.args.rows.now rows a row c.each-test.true c.each.invariant (get_or_default rows a no_domains row (omega arith))
