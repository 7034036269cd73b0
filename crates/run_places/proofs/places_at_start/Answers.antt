use Rattle.run_places.proofs.Booted.{booted-has}
use Rattle.run_places.proofs.places_at_start.Goals as goal

pub returns : goal.returns
returns c = booted-has
