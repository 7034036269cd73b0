use Rattle.fetch_economy.proofs.Selective.{changes_are_selective}
use Rattle.fetch_economy.proofs.selective_changes.Goals as goal

pub returns : goal.returns
returns c = changes_are_selective
