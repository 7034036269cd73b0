use Rattle.boot_again.proofs.Text.{printed_is_listing}
use Rattle.boot_again.proofs.printed_is_listing.Goals as goal

pub returns : goal.returns
returns c = printed_is_listing
