use Rattle.std.proofs.Common.{length, sym, ◌∙◌, ap, arith}
use Rattle.separation_policy.specs.Closure.{passed}
use Rattle.separation_policy.proofs.Closing.{passed-none, passed-more, passed-length}
use Rattle.separation_policy.proofs.closure.pass_all.Goals as goal

pub each-init : goal.each-init
each-init c = sym (passed-none c.args.rows.now)

pub pass-requires : goal.pass-requires
pass-requires c =
    let long = passed-length c.each.k c.args.rows.now in
    let same = ap length c.each.invariant in
    omega (arith, long, same)

pub each-preserved : goal.each-preserved
each-preserved c =
    c.pass.ensures
    ∙ ap (passed c.each.k) c.each.invariant
    ∙ sym (passed-more c.each.k c.args.rows.now)
