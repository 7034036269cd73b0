use Rattle.std.proofs.Common.{◌≡◌, ℕ, ◌+◌, ◌++◌, not, List, [], drop, length, refl, sym, ◌∙◌, ap, subst, arith}
use Rattle.std.specs.List.{All}
use Rattle.std.proofs.lemmas.List.{drop_all}
use Rattle.std.proofs.lemmas.List.Elements.{All-append, All-drop}
use Rattle.machine_state.specs.State.{state_of}
use Rattle.separation_policy.specs.Policy.{PolicyValue}
use Rattle.separation_policy.specs.Making.{bare_policy}
use Rattle.policy_lines.specs.declared.permission.Permission.{Permission}
use Rattle.policy_lines.specs.Permission.{IsMade}
use Rattle.policy_lines.specs.Unused.{holds_in}
use Rattle.policy_lines.specs.Least.{only, thinned}
use Rattle.policy_lines.proofs.Made.{all-none, all-if}
use Rattle.policy_lines.proofs.Passing.{reads-some}
use Rattle.policy_lines.proofs.Results.{so_err}
use Rattle.policy_lines.proofs.Thinned.{one-thinned}
use Rattle.policy_lines.proofs.Adding.{bare-only, same-only, same-count}
use Rattle.policy_lines.proofs.least_lines.thin.Goals as goal

pub each-init : goal.each-init
each-init g c = record {
  bare = refl;
  made = subst (λ (ls : List Permission). All (IsMade (length c.args.policy.now.domains)) ls) (sym c.new-kept.ensures.items) (all-none (IsMade (length c.args.policy.now.domains)));
  left = ap (λ (ls : List Permission). thinned (λ some. holds_in (only c.args.policy.now some) (state_of c.args.machine.now)) ls c.args.lines.now) c.new-kept.ensures.items;
  counted = omega arith;
}

pub holds_with-requires-clause-kept : goal.holds_with-requires-clause-kept
holds_with-requires-clause-kept g c =
    let count = length c.args.policy.now.domains in
    let made : All (IsMade count) c.deref.result.now =
    subst (λ (ls : List Permission). All (IsMade count) ls) (sym c.deref.ensures.value) c.each.invariant.made in
    subst (λ (n : ℕ). All (IsMade n) c.deref.result.now) (sym (same-count c.each.policy c.args.policy.now c.each.invariant.bare)) made

pub holds_with-requires-clause-rest : goal.holds_with-requires-clause-rest
holds_with-requires-clause-rest g c =
    let count = length c.args.policy.now.domains in
    let made : All (IsMade count) c.behind.result.now =
    subst (λ (ls : List Permission). All (IsMade count) ls) (sym c.behind.ensures) (All-drop (IsMade count) (c.each.i + 1) c.args.lines.now c.requires) in
    subst (λ (n : ℕ). All (IsMade n) c.behind.result.now) (sym (same-count c.each.policy c.args.policy.now c.each.invariant.bare)) made

pub each-preserved : goal.each-preserved
each-preserved g c =
    let policy = c.args.policy.now in
    let s = state_of c.args.machine.now in
    let lines = c.args.lines.now in
    let line = c.line_at.result in
    let kept = c.each.kept.items in
    let count = length policy.domains in
    let value : c.in_ok-enough.enough ≡ holds_in (only policy (kept ++ drop (c.each.i + 1) lines)) s =
    c.in_ok-enough.ensures.value
    ∙ (ap (λ (ls : List Permission). holds_in (only c.each.policy (ls ++ c.behind.result.now)) s) c.deref.ensures.value
    ∙ (ap (λ (p : PolicyValue). holds_in p s) (same-only c.each.policy policy c.each.invariant.bare (kept ++ c.behind.result.now))
    ∙ ap (λ (rest : List Permission). holds_in (only policy (kept ++ rest)) s) c.behind.ensures)) in
    let made : IsMade count line = subst (λ (l : Permission). IsMade count l) (sym c.line_at.ensures) (c.requires c.each.i line (omega arith)) in
    record {
      bare = ap (λ (p : PolicyValue). bare_policy p) c.in_ok-enough.ensures.after ∙ (bare-only c.each.policy (c.deref.result.now ++ c.behind.result.now) ∙ c.each.invariant.bare);
      made = subst (λ (ls : List Permission). All (IsMade count) ls) (sym c.in_ok-push_if.ensures)
          (All-append (IsMade count) kept _ c.each.invariant.made (all-if (IsMade count) (not c.in_ok-enough.enough) line made));
      left = one-thinned (λ some. holds_in (only policy some) s) lines c.each.i line c.in_ok-enough.enough kept _ (omega arith) c.line_at.ensures value c.in_ok-push_if.ensures
          ∙ c.each.invariant.left;
      counted = omega (arith, c.each.invariant.counted, c.in_ok-enough.ensures.counted);
    }

pub returns-clause-value : goal.returns-clause-value
returns-clause-value g c =
    let ended : drop c.each.i c.args.lines.now ≡ [] = drop_all c.each.i c.args.lines.now (omega arith) in
    sym (ap (λ (ls : List Permission). thinned (λ some. holds_in (only c.args.policy.now some) (state_of c.args.machine.now)) c.each.kept.items ls) ended)
    ∙ c.each.invariant.left

pub returns-in_err-enough-clause-bare : goal.returns-in_err-enough-clause-bare
returns-in_err-enough-clause-bare g c =
    ap (λ (p : PolicyValue). bare_policy p) c.in_err-enough.ensures.after ∙ (bare-only c.each.policy (c.deref.result.now ++ c.behind.result.now) ∙ c.each.invariant.bare)

pub returns-in_err-push_if-clause-bare : goal.returns-in_err-push_if-clause-bare
returns-in_err-push_if-clause-bare g c =
    ap (λ (p : PolicyValue). bare_policy p) c.in_ok-enough.ensures.after ∙ (bare-only c.each.policy (c.deref.result.now ++ c.behind.result.now) ∙ c.each.invariant.bare)

-- ---- where memory is wanting

pub returns-in_err-enough-clause-err : goal.returns-in_err-enough-clause-err
returns-in_err-enough-clause-err g c =
    let read = c.each.invariant.counted in
    let none = c.in_err-enough.ensures.err in
    so_err _ _ (reads-some _ _ _ _ c.each.i (omega arith) (none ∙ read))

pub returns-in_err-push_if-clause-err : goal.returns-in_err-push_if-clause-err
returns-in_err-push_if-clause-err g c =
    let read = c.each.invariant.counted in
    let once = c.in_ok-enough.ensures.counted in
    so_err _ _ (reads-some _ _ _ _ (c.each.i + 1) (omega arith) (omega (arith, read, once)))
