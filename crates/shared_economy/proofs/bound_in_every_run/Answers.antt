use Rattle.shared_economy.proofs.Bound.{bound_in_every_run, round_bound}
use Rattle.shared_economy.proofs.bound_in_every_run.Goals as goal

pub returns : goal.returns
returns c = record { bound = bound_in_every_run; round = round_bound }
