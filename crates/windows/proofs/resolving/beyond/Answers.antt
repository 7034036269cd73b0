use Rattle.std.proofs.Common.{ℕ, ◌<◌, subst, arith}
use Rattle.windows.proofs.Offsets.{window_limit, aligned_sum}
use Rattle.windows.proofs.resolving.beyond.Goals as goal

pub overflow_add-result : goal.overflow_add-result
overflow_add-result c =
    let P : ℕ → Type 0 = λ n. c.args.window.object < n in
    let fits = subst P (window_limit c.args.window.kind c.requires.window) c.object.ensures.range.object in
    let sum = aligned_sum c.args.window.object c.args.r c.args.window.guard.l2g 32 c.object.ensures.range.guard.high fits (c.object.ensures.range.aligned c.requires.window) c.requires.left in
    omega (arith, sum, c.object.ensures.value)
