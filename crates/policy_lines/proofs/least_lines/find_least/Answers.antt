use Rattle.std.proofs.Common.{◌≡◌, ◌≤◌, ℕ, ◌+◌, ◌*◌, List, [], length, sym, ◌∙◌, ap, ap₂, subst}
use Rattle.std.specs.List.{All}
use Rattle.cap_format.specs.declared.kind.CapKind.TheVariants.{Gpt}
use Rattle.object_store.specs.Store.{size_of}
use Rattle.machine_state.specs.State.{state_of}
use Rattle.separation_policy.specs.Policy.{PolicyValue}
use Rattle.separation_policy.specs.Making.{bare_policy}
use Rattle.policy_lines.specs.declared.permission.Permission.{Permission}
use Rattle.policy_lines.specs.Permission.{IsMade, lines_of}
use Rattle.policy_lines.specs.Unused.{holds_in}
use Rattle.policy_lines.specs.Least.{only, with_lines, thinned}
use Rattle.policy_lines.specs.Needed.{named_by}
use Rattle.policy_lines.proofs.Adding.{bare-only}
use Rattle.policy_lines.proofs.Passing.{reads-none, reads-same}
use Rattle.policy_lines.proofs.Results.{if_err, if_ok, so_err}
use Rattle.policy_lines.proofs.least_lines.find_least.Goals as goal

pub allow_only-requires : goal.allow_only-requires
allow_only-requires g c =
    let made : All (IsMade (length c.args.policy.now.domains)) c.in_ok-named.named.items =
    subst (λ (n : ℕ). All (IsMade n) c.in_ok-named.named.items) c.len.ensures.value c.in_ok-named.ensures.made in
    subst (λ (ls : List Permission). All (IsMade (length c.args.policy.now.domains)) ls) (sym c.deref.ensures.value) made

pub returns-clause-value : goal.returns-clause-value
returns-clause-value g c =
    let policy = c.args.policy.now in
    let s = state_of c.args.machine.now in
    let given : c.allow_only.new.policy ≡ only policy (named_by (length policy.domains) c.args.found.now) =
    c.allow_only.ensures ∙ ap (λ (ls : List Permission). only policy ls) (c.deref.ensures.value ∙ (c.in_ok-named.ensures.value ∙ ap (λ (n : ℕ). named_by n c.args.found.now) c.len.ensures.value)) in
    let all : c.deref-2.result.now ≡ lines_of (only policy (named_by (length policy.domains) c.args.found.now)) =
    c.deref-2.ensures.value ∙ (c.in_ok-all.ensures.value ∙ ap (λ (p : PolicyValue). lines_of p) given) in
    let same : bare_policy c.allow_only.new.policy ≡ bare_policy policy = ap (λ (p : PolicyValue). bare_policy p) given ∙ bare-only policy (named_by (length policy.domains) c.args.found.now) in
    if_ok c.thin.result _ _
    (λ kept is. is ∙ ap₂ (λ (bare : PolicyValue) (lines : List Permission). thinned (λ some. holds_in (with_lines bare some) s) [] lines) same all)
    c.thin.ensures.value

pub returns-clause-bare : goal.returns-clause-bare
returns-clause-bare g c =
    c.thin.ensures.bare ∙ (ap (λ (p : PolicyValue). bare_policy p) c.allow_only.ensures ∙ bare-only c.args.policy.now c.deref.result.now)

pub returns-clause-counted : goal.returns-clause-counted
returns-clause-counted g c =
    let policy = c.args.policy.now in
    let given : c.allow_only.new.policy ≡ only policy (named_by (length policy.domains) c.args.found.now) =
    c.allow_only.ensures ∙ ap (λ (ls : List Permission). only policy ls) (c.deref.ensures.value ∙ (c.in_ok-named.ensures.value ∙ ap (λ (n : ℕ). named_by n c.args.found.now) c.len.ensures.value)) in
    let all : c.deref-2.result.now ≡ lines_of (only policy (named_by (length policy.domains) c.args.found.now)) =
    c.deref-2.ensures.value ∙ (c.in_ok-all.ensures.value ∙ ap (λ (p : PolicyValue). lines_of p) given) in
    if_ok c.thin.result _ _
    (λ kept is. is ∙ ap (λ (lines : List Permission). c.args.fetches.now + 16 * size_of c.args.machine.now.objects.items Gpt * length lines) all)
    c.thin.ensures.counted

pub returns-clause-most : goal.returns-clause-most
returns-clause-most g c =
    let policy = c.args.policy.now in
    let given : c.allow_only.new.policy ≡ only policy (named_by (length policy.domains) c.args.found.now) =
    c.allow_only.ensures ∙ ap (λ (ls : List Permission). only policy ls) (c.deref.ensures.value ∙ (c.in_ok-named.ensures.value ∙ ap (λ (n : ℕ). named_by n c.args.found.now) c.len.ensures.value)) in
    let all : c.deref-2.result.now ≡ lines_of (only policy (named_by (length policy.domains) c.args.found.now)) =
    c.deref-2.ensures.value ∙ (c.in_ok-all.ensures.value ∙ ap (λ (p : PolicyValue). lines_of p) given) in
    subst (λ (lines : List Permission). c.thin.new.fetches ≤ c.args.fetches.now + 16 * size_of c.args.machine.now.objects.items Gpt * length lines) all c.thin.ensures.most

pub returns-in_err-all-clause-bare : goal.returns-in_err-all-clause-bare
returns-in_err-all-clause-bare g c = ap (λ (p : PolicyValue). bare_policy p) c.allow_only.ensures ∙ bare-only c.args.policy.now c.deref.result.now

-- ---- where memory is wanting

pub returns-in_err-named-clause-err : goal.returns-in_err-named-clause-err
returns-in_err-named-clause-err g c = so_err _ _ (reads-none _ _ _)

pub returns-in_err-all-clause-err : goal.returns-in_err-all-clause-err
returns-in_err-all-clause-err g c = so_err _ _ (reads-none _ _ _)

pub returns-clause-err : goal.returns-clause-err
returns-clause-err g c =
    let policy = c.args.policy.now in
    let given : c.allow_only.new.policy ≡ only policy (named_by (length policy.domains) c.args.found.now) =
    c.allow_only.ensures ∙ ap (λ (ls : List Permission). only policy ls) (c.deref.ensures.value ∙ (c.in_ok-named.ensures.value ∙ ap (λ (n : ℕ). named_by n c.args.found.now) c.len.ensures.value)) in
    let all : c.deref-2.result.now ≡ lines_of (only policy (named_by (length policy.domains) c.args.found.now)) =
    c.deref-2.ensures.value ∙ (c.in_ok-all.ensures.value ∙ ap (λ (p : PolicyValue). lines_of p) given) in
    if_err c.thin.result _ _ (reads-same _ _ _ _ _ (ap length all)) c.thin.ensures.err
