use Rattle.image_commands.proofs.Passing.{passes-rest}
use Rattle.image_commands.proofs.lines.pass_lines.Goals as goal

pub returns-clause-passes : goal.returns-clause-passes
returns-clause-passes g c = passes-rest c.args.lines.now _ _ _ _ c.judge_all.ensures.judged
