use Rattle.independence.proofs.Runs.{blind_law}
use Rattle.independence.proofs.blind_law.Goals as goal

pub returns : goal.returns
returns c = blind_law
