use Rattle.run_economy.proofs.Events.{run-follows, run-ages}
use Rattle.run_economy.proofs.touches_of_runs.Goals as goal

pub returns : goal.returns
returns c = record { follows = run-follows; ages = run-ages }
