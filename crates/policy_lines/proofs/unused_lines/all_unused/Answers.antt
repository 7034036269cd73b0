use Rattle.std.proofs.Common.{◌≡◌, ◌+◌, ap, ◌∙◌, length, arith}
use Rattle.machine_state.specs.State.{state_of}
use Rattle.separation_policy.specs.Policy.{PolicyValue}
use Rattle.policy_lines.specs.declared.permission.Permission.{Permission}
use Rattle.policy_lines.specs.Permission.{without}
use Rattle.policy_lines.specs.Unused.{holds_in}
use Rattle.policy_lines.proofs.Filtered.{one-tried}
use Rattle.policy_lines.proofs.Passing.{reads-none, reads-some}
use Rattle.policy_lines.proofs.Results.{so_err}
use Rattle.policy_lines.proofs.unused_lines.all_unused.Goals as goal

pub each-preserved : goal.each-preserved
each-preserved g c =
    let policy = c.args.policy.now in
    let s = state_of c.args.machine.now in
    let line = c.index-line.result.now in
    let value : c.in_ok-yes.yes ≡ holds_in (without policy line) s =
    c.in_ok-yes.ensures.value ∙ ap (λ (p : PolicyValue). holds_in (without p line) s) c.each.invariant.same in
    record {
      same = c.in_ok-yes.ensures.same ∙ c.each.invariant.same;
      told = one-tried (λ (line : Permission). holds_in (without policy line) s) c.in_ok-lines.lines.items c.each.i line c.in_ok-yes.yes c.each.found.items _
          (omega arith) c.index-line.ensures value c.each.invariant.told c.in_ok-push_if.ensures;
      counted = omega (arith, c.each.invariant.counted, c.in_ok-yes.ensures.counted);
    }

-- ---- where memory is wanting

pub returns-in_err-lines-clause-err : goal.returns-in_err-lines-clause-err
returns-in_err-lines-clause-err g c = so_err _ _ (reads-none _ _ _)

pub returns-in_err-yes-clause-err : goal.returns-in_err-yes-clause-err
returns-in_err-yes-clause-err g c =
    let count = ap length c.in_ok-lines.ensures.value in
    let read = c.each.invariant.counted in
    let none = c.in_err-yes.ensures.err in
    so_err _ _ (reads-some _ _ _ _ c.each.i (omega (arith, count)) (none ∙ read))

pub returns-in_err-push_if-clause-err : goal.returns-in_err-push_if-clause-err
returns-in_err-push_if-clause-err g c =
    let count = ap length c.in_ok-lines.ensures.value in
    let read = c.each.invariant.counted in
    let once = c.in_ok-yes.ensures.counted in
    so_err _ _ (reads-some _ _ _ _ (c.each.i + 1) (omega (arith, count)) (omega (arith, read, once)))
