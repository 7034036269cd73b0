use Rattle.interleavings.proofs.Seeing.{first_sees_only_law}
use Rattle.interleavings.proofs.first_sees_only_law.Goals as goal

pub returns : goal.returns
returns c = first_sees_only_law
