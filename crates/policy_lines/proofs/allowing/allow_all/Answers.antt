use Rattle.std.proofs.Common.{ℕ, length, sym, ◌∙◌, ap, subst, take, arith}
use Rattle.separation_policy.specs.Policy.{PolicyValue}
use Rattle.policy_lines.specs.declared.permission.Permission.{Permission}
use Rattle.policy_lines.specs.Permission.{IsMade}
use Rattle.policy_lines.proofs.With.{count-lines}
use Rattle.policy_lines.proofs.Adding.{one-allowed}
use Rattle.policy_lines.proofs.allowing.allow_all.Goals as goal

pub allow-requires : goal.allow-requires
allow-requires c =
    let policy = c.args.policy.now in
    let lines = c.args.lines.now in
    let line = c.line_at.result in
    let made : IsMade (length policy.domains) line =
    subst (λ (l : Permission). IsMade (length policy.domains) l) (sym c.line_at.ensures) (c.requires c.each.i line (omega arith)) in
    subst (λ (n : ℕ). IsMade n line) (sym (ap (λ (p : PolicyValue). length p.domains) c.each.invariant ∙ count-lines policy (take c.each.i lines))) made

pub each-preserved : goal.each-preserved
each-preserved c =
    one-allowed c.args.policy.now c.each.policy _ c.args.lines.now c.each.i c.line_at.result (omega arith) c.line_at.ensures c.each.invariant c.allow.ensures
