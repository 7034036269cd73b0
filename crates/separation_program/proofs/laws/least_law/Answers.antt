use Rattle.separation_program.proofs.Written.{least_law}
use Rattle.separation_program.proofs.laws.least_law.Goals as goal

pub returns : goal.returns
returns c =
    least_law c.places_at_start.ensures c.places_of_runs.ensures c.exactly_law.ensures c.needed_law.ensures c.integrity.ensures c.noninterference.ensures
