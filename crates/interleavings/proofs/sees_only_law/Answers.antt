use Rattle.interleavings.proofs.Seeing.{sees_only_law}
use Rattle.interleavings.proofs.sees_only_law.Goals as goal

pub returns : goal.returns
returns c = sees_only_law
