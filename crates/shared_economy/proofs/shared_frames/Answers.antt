use Rattle.shared_economy.proofs.Worked.{frames_are_shared}
use Rattle.shared_economy.proofs.shared_frames.Goals as goal

pub returns : goal.returns
returns c = frames_are_shared
