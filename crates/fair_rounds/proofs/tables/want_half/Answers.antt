use Rattle.fair_rounds.specs.Table.{wanting_end}
use Rattle.fair_rounds.proofs.Places.{push-mapped, all-mapped}
use Rattle.fair_rounds.proofs.tables.want_half.Goals as goal

pub loop-end-preserved : goal.loop-end-preserved
loop-end-preserved c =
    push-mapped (wanting_end c.args.goals.now c.args.firsts.now c.args.before) c.args.ends.now c.args.table.now.items c.push.new.self.items c.loop-end.table.items c.loop-end.end-index c.want_end.result
    c.loop-end-test.true c.loop-end.invariant c.want_end.ensures c.in_ok-push.ensures.items

pub returns : goal.returns
returns c =
    all-mapped (wanting_end c.args.goals.now c.args.firsts.now c.args.before) c.args.ends.now c.args.table.now.items c.loop-end.table.items c.loop-end.end-index c.loop-end-test.false c.loop-end.invariant
