use Rattle.walk_meaning.proofs.FrameLaw.{frame_law}
use Rattle.walk_meaning.proofs.laws.frame_law.Goals as goal

pub returns : goal.returns
returns c = frame_law
