use Rattle.std.proofs.Common.{sym, arith}
use Rattle.separation_check.specs.Crossings.{process_crossings}
use Rattle.separation_check.proofs.Lengths.{length-none, length-more}
use Rattle.separation_check.proofs.room.count_sleepers.Goals as goal

pub each-init : goal.each-init
each-init c = record {
  crossings = sym (length-none (process_crossings c.args.policy.now c.args.queues.now));
  most = omega arith;
}

pub each-preserved : goal.each-preserved
each-preserved c =
    let more = length-more (process_crossings c.args.policy.now c.args.queues.now) c.each.p in
    record {
      crossings = omega (arith, c.each.invariant.crossings, c.count_process.ensures, more);
      most = omega (arith, c.each.invariant.most);
    }
