use Rattle.untraced_steps.proofs.Cycle.{in_cycle_all}
use Rattle.untraced_steps.proofs.hart_steps.HartSteps.of_rounds.Goals as goal

pub returns : goal.returns
returns c = rw c.saturating_sub.ensures (in_cycle_all c.args.harts c.args.times)
