use Rattle.run_ranges.proofs.Events.{run-accesses, run-ranges}
use Rattle.run_ranges.proofs.ranges_of_runs.Goals as goal

pub returns : goal.returns
returns c = record { kept = run-ranges; accesses = run-accesses }
