use Rattle.std.proofs.Common.{◌≡◌, ℕ, ◌+◌, ◌++◌, Option, length, refl, ap, ◌∙◌, arith}
use Rattle.separation_check.specs.Crossings.{all_below, listed}
use Rattle.separation_check.proofs.Gathered.{none-yet, one-more}
use Rattle.policy_lines.specs.declared.permission.Permission.{Permission}
use Rattle.policy_lines.specs.Permission.{halting_by}
use Rattle.policy_lines.proofs.listing.push_halting.Goals as goal

pub each-init : goal.each-init
each-init c = none-yet (λ a. listed (halting_by c.args.policy.now a)) c.args.lines.now.items

pub each-preserved : goal.each-preserved
each-preserved c =
    one-more (λ a. listed (halting_by c.args.policy.now a)) c.each.a (c.each.a + 1) c.args.lines.now.items c.each.lines.items _ refl c.each.invariant
    (c.in_ok-push.ensures ∙ ap (λ (o : Option Permission). c.each.lines.items ++ listed o) c.halting_by.ensures)

pub returns : goal.returns
returns c =
    let end : c.each.a ≡ length c.args.policy.now.domains = omega arith in
    c.each.invariant ∙ ap (λ (n : ℕ). c.args.lines.now.items ++ all_below (λ a. listed (halting_by c.args.policy.now a)) n) end
