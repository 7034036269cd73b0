use Rattle.std.proofs.Common.{[], map, ◌++◌, ap, ◌∙◌}
use Rattle.fair_rounds.specs.Table.{walled_end}
use Rattle.fair_rounds.proofs.Places.{push-mapped, all-mapped}
use Rattle.fair_rounds.proofs.tables.wall.Goals as goal

pub loop-end-preserved : goal.loop-end-preserved
loop-end-preserved c =
    push-mapped (walled_end c.args.goals.now) c.args.ends.now [] c.push.new.self.items c.loop-end.walls.items c.loop-end.end-index c.wall_end.result
    c.loop-end-test.true c.loop-end.invariant c.wall_end.ensures c.in_ok-push.ensures.items

pub returns : goal.returns
returns c =
    let all = all-mapped (walled_end c.args.goals.now) c.args.ends.now [] c.loop-end.walls.items c.loop-end.end-index c.loop-end-test.false c.loop-end.invariant in
    c.in_ok-extend_from_slice.ensures.items ∙ ap (λ l. l ++ c.deref.result.now) all
    ∙ ap (λ l. map (walled_end c.args.goals.now) c.args.ends.now ++ l) (c.deref.ensures.value ∙ c.in_ok-behind.ensures.items_if_clones_equal (λ y e. e))
