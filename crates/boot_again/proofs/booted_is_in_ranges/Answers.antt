use Rattle.boot_again.proofs.Ranges.{booted_is_in_ranges}
use Rattle.boot_again.proofs.booted_is_in_ranges.Goals as goal

pub returns : goal.returns
returns c = booted_is_in_ranges
