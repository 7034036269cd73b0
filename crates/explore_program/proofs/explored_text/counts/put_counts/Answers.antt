use Rattle.std.proofs.Common.{◌≤◌, length, arith}
use Rattle.run_text.proofs.Texts.{all_done, none_yet, one_more, one_stops}
use Rattle.explore_program.specs.explored_text.Text.{counted_text}
use Rattle.explore_program.proofs.explored_text.counts.put_counts.Goals as goal

pub each-init : goal.each-init
each-init g c = none_yet _ _ _

pub each-preserved : goal.each-preserved
each-preserved g c = one_more _ _ _ _ _ _ _ _ _ c.each.invariant c.in_ok-put_counted.ensures

pub returns-in_err-put_counted : goal.returns-in_err-put_counted
returns-in_err-put_counted g c =
    one_stops (counted_text c.args.properties.now c.args.counts.now) _ _ _ (length c.args.counts.now) _ _ _ _ _ _ c.each-test.true c.from_residual.ensures.0 c.each.invariant c.in_err-put_counted.ensures

pub returns : goal.returns
returns g c =
    let past : length c.args.counts.now ≤ c.each.i = omega arith in
    let within : c.each.i ≤ length c.args.counts.now = omega arith in
    all_done (counted_text c.args.properties.now c.args.counts.now) _ _ (length c.args.counts.now) _ _ _ _ past within c.each.invariant
