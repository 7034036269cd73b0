use Rattle.std.proofs.Common.{◌<◌, ◌≤◌, length, arith}
use Rattle.run_text.proofs.Texts.{all_done, none_yet, one_more, one_stops}
use Rattle.separation_program.specs.Text.{domain_text}
use Rattle.separation_program.proofs.telling.put_domains.Goals as goal

pub each-init : goal.each-init
each-init g c = none_yet _ _ _

pub each-preserved : goal.each-preserved
each-preserved g c = one_more _ _ _ _ _ _ _ _ _ c.each.invariant c.in_ok-put_domain.ensures

pub returns-in_err-put_domain : goal.returns-in_err-put_domain
returns-in_err-put_domain g c =
    let inside : c.each.domain < length c.args.policy.now.domains = omega arith in
    one_stops (domain_text c.args.policy.now c.args.marks) _ _ _ (length c.args.policy.now.domains) _ _ _ _ _ _ inside c.from_residual.ensures.0 c.each.invariant c.in_err-put_domain.ensures

pub returns : goal.returns
returns g c =
    let past : length c.args.policy.now.domains ≤ c.each.domain = omega arith in
    let within : c.each.domain ≤ length c.args.policy.now.domains = omega arith in
    all_done (domain_text c.args.policy.now c.args.marks) _ _ (length c.args.policy.now.domains) _ _ _ _ past within c.each.invariant
