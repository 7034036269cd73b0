use Rattle.fair_rounds.proofs.Fairness.{fair-passes}
use Rattle.fair_rounds.proofs.laws.fair_schedules_pass.Goals as goal

pub returns : goal.returns
returns g c next goal width s most schedule must fair = fair-passes width schedule fair next goal s most must
