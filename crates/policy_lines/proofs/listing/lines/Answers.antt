use Rattle.std.proofs.Common.{◌≡◌, ◌++◌, List, length, sym, subst, ap, ◌∙◌}
use Rattle.std.specs.List.{All}
use Rattle.std.proofs.lemmas.List.{append_assoc}
use Rattle.separation_check.specs.Crossings.{all_below, listed}
use Rattle.policy_lines.specs.declared.permission.Permission.{Permission}
use Rattle.policy_lines.specs.Permission.{IsMade, channels_of, halting_by, logging_by, lines_of}
use Rattle.policy_lines.proofs.Made.{made-lines}
use Rattle.policy_lines.proofs.listing.lines.Goals as goal

pub returns-clause-made : goal.returns-clause-made
returns-clause-made c =
    let policy = c.args.policy.now in
    let halting = all_below (λ a. listed (halting_by policy a)) (length policy.domains) in
    let logging = all_below (λ a. listed (logging_by policy a)) (length policy.domains) in
    let first : c.push_halting.new.lines.items ≡ channels_of policy ++ halting = c.in_ok-push_halting.ensures ∙ ap (λ (xs : List Permission). xs ++ halting) c.in_ok-lines.ensures.value in
    let all : c.push_logging.new.lines.items ≡ lines_of policy = c.in_ok-push_logging.ensures ∙ (ap (λ (xs : List Permission). xs ++ logging) first ∙ append_assoc (channels_of policy) halting logging) in
    subst (λ (xs : List Permission). All (IsMade (length policy.domains)) xs) (sym all) (made-lines policy)
