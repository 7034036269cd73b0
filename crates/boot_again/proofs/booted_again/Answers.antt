use Rattle.boot_again.proofs.Again.{booted_again}
use Rattle.boot_again.proofs.booted_again.Goals as goal

pub returns : goal.returns
returns c = booted_again
