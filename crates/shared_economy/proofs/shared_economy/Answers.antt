use Rattle.shared_economy.proofs.Economic.{round_economy, shared_economy}
use Rattle.shared_economy.proofs.shared_economy.Goals as goal

pub returns : goal.returns
returns c = record { economy = shared_economy; round = round_economy }
