use Rattle.boot_again.proofs.Boots.{boots}
use Rattle.boot_again.proofs.printed_objects_boot.Goals as goal

pub returns : goal.returns
returns c = boots
