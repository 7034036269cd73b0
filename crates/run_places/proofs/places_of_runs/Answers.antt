use Rattle.run_places.proofs.Events.{run-places}
use Rattle.run_places.proofs.places_of_runs.Goals as goal

pub returns : goal.returns
returns c = run-places
