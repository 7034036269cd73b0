use Rattle.coyotos_cli.proofs.Words.{same-course}
use Rattle.coyotos_cli.proofs.laws.same_course_law.Goals as goal

pub returns : goal.returns
returns c = same-course
