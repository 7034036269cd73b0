use Rattle.std.proofs.Common.{◌≡◌, ◌++◌, true, false, List, length, sym, subst, ap, ◌∙◌}
use Rattle.std.specs.List.{All}
use Rattle.policy_lines.specs.declared.permission.Permission.{Permission}
use Rattle.policy_lines.specs.Permission.{IsMade, channels_by, channels_of}
use Rattle.policy_lines.proofs.Made.{made-channels}
use Rattle.policy_lines.proofs.listing.channels.Goals as goal

pub returns-clause-made : goal.returns-clause-made
returns-clause-made c =
    let policy = c.args.policy.now in
    let first : c.push_channels.new.lines.items ≡ channels_by policy false = c.in_ok-push_channels.ensures ∙ ap (λ (xs : List Permission). xs ++ channels_by policy false) c.new-lines.ensures.items in
    let both : c.push_channels-2.new.lines.items ≡ channels_of policy = c.in_ok-push_channels-2.ensures ∙ ap (λ (xs : List Permission). xs ++ channels_by policy true) first in
    subst (λ (xs : List Permission). All (IsMade (length policy.domains)) xs) (sym both) (made-channels policy)
