use Rattle.std.proofs.Common.{◌≡◌, ℕ, ◌++◌, length, IfOk, sym, ◌∙◌, ap, subst}
use Rattle.std.specs.List.{All}
use Rattle.machine_state.specs.State.{state_of}
use Rattle.separation_policy.specs.Policy.{PolicyValue}
use Rattle.separation_policy.specs.Making.{bare_policy}
use Rattle.policy_lines.specs.Permission.{IsMade}
use Rattle.policy_lines.specs.Unused.{holds_in}
use Rattle.policy_lines.specs.Least.{with_lines, only}
use Rattle.policy_lines.proofs.Crossed.{these-count}
use Rattle.policy_lines.proofs.Adding.{with-append}
use Rattle.policy_lines.proofs.least_lines.holds_with.Goals as goal

pub allow_all-requires : goal.allow_all-requires
allow_all-requires g c =
    let policy = c.args.policy.now in
    let same : length c.allow_only.new.policy.domains ≡ length policy.domains =
    ap (λ (p : PolicyValue). length p.domains) c.allow_only.ensures ∙ these-count policy c.args.kept.now in
    subst (λ (n : ℕ). All (IsMade n) c.args.rest.now) (sym same) c.requires.rest

pub returns-clause-value : goal.returns-clause-value
returns-clause-value g c =
    let policy = c.args.policy.now in
    let both : c.allow_all.new.policy ≡ only policy (c.args.kept.now ++ c.args.rest.now) =
    c.allow_all.ensures
    ∙ (ap (λ (p : PolicyValue). with_lines p c.args.rest.now) c.allow_only.ensures
    ∙ sym (with-append (bare_policy policy) c.args.kept.now c.args.rest.now)) in
    subst (λ (p : PolicyValue). IfOk c.holds.result (λ yes. yes ≡ holds_in p (state_of c.args.machine.now))) both c.holds.ensures.value

pub returns-clause-after : goal.returns-clause-after
returns-clause-after g c =
    c.allow_all.ensures
    ∙ (ap (λ (p : PolicyValue). with_lines p c.args.rest.now) c.allow_only.ensures
    ∙ sym (with-append (bare_policy c.args.policy.now) c.args.kept.now c.args.rest.now))
