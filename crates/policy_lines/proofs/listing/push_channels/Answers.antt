use Rattle.std.proofs.Common.{◌≡◌, ℕ, ◌+◌, ◌++◌, length, refl, ap, ◌∙◌, arith}
use Rattle.separation_check.specs.Crossings.{all_below}
use Rattle.separation_check.proofs.Gathered.{none-yet, one-more}
use Rattle.policy_lines.specs.Permission.{channels_from}
use Rattle.policy_lines.proofs.listing.push_channels.Goals as goal

pub each-init : goal.each-init
each-init c = none-yet (channels_from c.args.policy.now c.args.writes) c.args.lines.now.items

pub each-preserved : goal.each-preserved
each-preserved c =
    one-more (channels_from c.args.policy.now c.args.writes) c.each.a (c.each.a + 1) c.args.lines.now.items c.each.lines.items _ refl c.each.invariant
    c.in_ok-push_channels_from.ensures

pub returns : goal.returns
returns c =
    let end : c.each.a ≡ length c.args.policy.now.domains = omega arith in
    c.each.invariant ∙ ap (λ (n : ℕ). c.args.lines.now.items ++ all_below (channels_from c.args.policy.now c.args.writes) n) end
