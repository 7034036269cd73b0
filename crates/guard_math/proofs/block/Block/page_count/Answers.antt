use Rattle.std.proofs.Common.{arith, ◌≡◌, ◌*◌, ◌^◌, ◌-◌, ap, ◌∙◌}
use Rattle.guard_math.proofs.BlockLaws.{pages_of_size}
use Rattle.guard_math.proofs.block.Block.page_count.Goals as goal

pub returns-clause-value : goal.returns-clause-value
returns-clause-value c =
    let low = c.l2.ensures.range.low in
    let size : c.size.result ≡ 2 ^ (c.args.self.l2 - 12) * 4096 =
    c.size.ensures.value ∙ ap (λ n. 2 ^ n) c.l2.ensures.value ∙ pages_of_size c.args.self.l2 low in
    omega (arith, size)
