use Rattle.shared_economy.proofs.Few.{fewer_frames}
use Rattle.shared_economy.proofs.fewer_frames.Goals as goal

pub returns : goal.returns
returns c = fewer_frames
