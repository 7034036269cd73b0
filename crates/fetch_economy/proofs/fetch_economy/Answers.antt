use Rattle.fetch_economy.proofs.Economic.{fetch_economy, round_economy}
use Rattle.fetch_economy.proofs.Entries.{covered_have_entries}
use Rattle.fetch_economy.proofs.fetch_economy.Goals as goal

pub returns : goal.returns
returns c = record { economy = fetch_economy; round = round_economy; entries = covered_have_entries }
