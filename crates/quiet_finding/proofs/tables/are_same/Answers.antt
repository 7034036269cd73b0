use Rattle.std.proofs.Common.{◌≡◌, ℕ, ◌<◌, ◌≤◌, length, get_or, arith, refl, sym, ◌∙◌}
use Rattle.std.proofs.lemmas.List.{same_lists, get_or_default}
use Rattle.quiet_runs.specs.declared.reached_by.ReachedBy.{ReachedBy}
use Rattle.quiet_runs.specs.declared.reached_by.ReachedBy.TheVariants.{Nobody}
use Rattle.quiet_finding.proofs.tables.are_same.Goals as goal

pub returns : goal.returns
returns c =
    let some = c.args.some.now in
    let others = c.args.others.now in
    let long : length some ≡ length others = c.if-some-others.false in
    let end : length some ≤ c.each.i = c.each-test.false in
    let each : (k : ℕ) (d : ReachedBy) → k < length some → get_or some k d ≡ get_or others k d = λ k d lt.
    let before : k < c.each.i = omega arith in
    let there : k < length others = omega arith in
    get_or_default some k d Nobody lt ∙ (c.each.invariant k before ∙ sym (get_or_default others k d Nobody there)) in
    (λ yes. same_lists some others long each, λ same. refl)
