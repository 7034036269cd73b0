use Rattle.boot_again.proofs.Again.{booted_is_listable}
use Rattle.boot_again.proofs.booted_is_listable.Goals as goal

pub returns : goal.returns
returns c = booted_is_listable
