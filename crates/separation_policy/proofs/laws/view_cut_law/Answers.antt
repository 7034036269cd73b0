use Rattle.separation_policy.proofs.Cuts.{view_cut_law}
use Rattle.separation_policy.proofs.laws.view_cut_law.Goals as goal

pub returns : goal.returns
returns c = view_cut_law
