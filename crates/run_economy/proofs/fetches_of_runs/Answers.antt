use Rattle.run_economy.proofs.Bounds.{runs_are_bound, runs_are_economic}
use Rattle.run_economy.proofs.fetches_of_runs.Goals as goal

pub returns : goal.returns
returns c = record { bound = runs_are_bound; economy = runs_are_economic }
