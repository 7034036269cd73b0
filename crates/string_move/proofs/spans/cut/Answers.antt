use Rattle.std.proofs.Common.{ap, length, arith}
use Rattle.string_move.proofs.Cuts.{cut_more, cut_room, cut_all, length-spans}
use Rattle.string_move.proofs.spans.cut.Goals as goal

pub push-requires : goal.push-requires
push-requires c = omega (arith, cut_room c.loop-left.list c.loop-left.next c.loop-left.left c.args.at c.args.size c.loop-left-test.true c.requires.longest c.loop-left.invariant.same)

pub loop-left-preserved : goal.loop-left-preserved
loop-left-preserved c = record {
  same = rw (c.push.ensures, c.from-next-in-loop-left.ensures, c.from-left.ensures) (cut_more c.loop-left.list _ c.loop-left.next c.loop-left.left c.first_size-size.result c.loop-left-test.true c.first_size-size.ensures.value c.loop-left.invariant.same);
  ends = omega (arith, c.loop-left.invariant.ends, c.first_size-size.ensures.value, c.from-next-in-loop-left.ensures, c.from-left.ensures);
}

pub returns-clause-value : goal.returns-clause-value
returns-clause-value c = cut_all c.loop-left.list _ c.loop-left.next c.loop-left.left c.loop-left-test.false c.loop-left.invariant.same

pub returns-clause-most : goal.returns-clause-most
returns-clause-most c =
    let all = cut_all c.loop-left.list _ c.loop-left.next c.loop-left.left c.loop-left-test.false c.loop-left.invariant.same in
    omega (arith, ap length all, length-spans c.args.at c.args.size c.requires.longest)
