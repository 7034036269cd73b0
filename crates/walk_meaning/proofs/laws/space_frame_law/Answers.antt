use Rattle.walk_meaning.proofs.FrameLaw.{space_frame_law}
use Rattle.walk_meaning.proofs.laws.space_frame_law.Goals as goal

pub returns : goal.returns
returns c = space_frame_law
