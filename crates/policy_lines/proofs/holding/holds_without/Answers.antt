use Rattle.std.proofs.Common.{◌≡◌, ℕ, ◌<◌, length, IfOk, sym, subst, ap, ◌∙◌, arith}
use Rattle.machine_state.specs.State.{state_of}
use Rattle.separation_policy.specs.declared.rights.Rights.{Rights}
use Rattle.separation_policy.specs.Policy.{PolicyValue}
use Rattle.separation_policy.specs.Making.{rights_at, with_rights}
use Rattle.policy_lines.specs.Permission.{rights_without, without}
use Rattle.policy_lines.specs.Unused.{holds_in}
use Rattle.policy_lines.proofs.Made.{made-domain, made-few}
use Rattle.policy_lines.proofs.Restoring.{restored}
use Rattle.policy_lines.proofs.holding.holds_without.Goals as goal

pub out_of-requires : goal.out_of-requires
out_of-requires g c =
    made-few (length c.args.policy.now.domains) 64 c.args.line (omega (arith, c.len.ensures.value, c.len.ensures.few)) c.requires

pub returns-clause-value : goal.returns-clause-value
returns-clause-value g c =
    let policy = c.args.policy.now in
    let line = c.args.line in
    let changed : c.set_rights.new.self ≡ without policy line =
    c.set_rights.ensures
    ∙ (ap (λ (r : Rights). with_rights policy c.domain-domain.result r) (c.out_of.ensures ∙ ap (λ (r : Rights). rights_without r line) c.rights-before.ensures)
    ∙ ap (λ (d : ℕ). with_rights policy d (rights_without (rights_at policy d) line)) c.domain-domain.ensures) in
    subst (λ (p : PolicyValue). IfOk c.holds-held.result (λ yes. yes ≡ holds_in p (state_of c.args.machine.now))) changed c.holds-held.ensures.value

pub returns-clause-same : goal.returns-clause-same
returns-clause-same g c =
    let policy = c.args.policy.now in
    let d = c.domain-domain.result in
    let made : d < length policy.domains =
    subst (λ (n : ℕ). n < length policy.domains) (sym c.domain-domain.ensures) (made-domain (length policy.domains) c.args.line c.requires) in
    c.set_rights-2.ensures
    ∙ (ap (λ (p : PolicyValue). with_rights p d c.rights-before.result) c.set_rights.ensures
    ∙ (ap (λ (r : Rights). with_rights (with_rights policy d c.out_of.result) d r) c.rights-before.ensures
    ∙ restored policy d c.out_of.result made))
