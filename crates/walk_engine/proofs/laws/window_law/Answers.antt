use Rattle.walk_engine.proofs.WindowCases.{window_law}
use Rattle.walk_engine.proofs.laws.window_law.Goals as goal

pub returns : goal.returns
returns c = window_law
