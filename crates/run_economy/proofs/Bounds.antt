-- The laws on touches, of runs.
use Rattle.kernel_core.specs.Run.{run_state, run_touches}
use Rattle.fetch_economy.proofs.Bound.{round_bound}
use Rattle.fetch_economy.proofs.Economic.{round_economy}
use Rattle.run_economy.specs.Laws.{RunsAreBound, RunsAreEconomic}
use Rattle.run_economy.proofs.Events.{run-ages}

-- in every run
pub runs_are_bound : RunsAreBound
runs_are_bound kept s events = round_bound kept (run_touches s events)

-- where the need fits
pub runs_are_economic : RunsAreEconomic
runs_are_economic s events fits = round_economy s.store.items (run_state s events).store.items (run_touches s events) (run-ages s events) fits
