use Rattle.confine_command.proofs.Stating.{states-rest}
use Rattle.confine_command.proofs.lines.read_sides.Goals as goal

pub returns-clause-states : goal.returns-clause-states
returns-clause-states g c = states-rest c.args.cut.now _ c.args.lines.now _ _ _ _ c.judge_all.ensures.judged
