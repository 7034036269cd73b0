use Rattle.fetch_economy.proofs.Worked.{rewrites_are_cheap}
use Rattle.fetch_economy.proofs.unrelated_rewrites.Goals as goal

pub returns : goal.returns
returns c = rewrites_are_cheap
