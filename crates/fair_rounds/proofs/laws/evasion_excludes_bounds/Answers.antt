use Rattle.fair_rounds.proofs.Lassos.{lasso-never}
use Rattle.fair_rounds.specs.Rounds.{after}
use Rattle.fair_rounds.proofs.laws.evasion_excludes_bounds.Goals as goal

pub returns : goal.returns
returns g c next goal first width start path cycle most e comes =
    lasso-never next goal width (after next start e.stem) e.rest cycle e.lasso most (comes e.stem e.choices e.begins)
