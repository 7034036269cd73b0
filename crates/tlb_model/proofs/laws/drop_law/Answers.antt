use Rattle.tlb_model.proofs.Found.{drop_law}
use Rattle.tlb_model.proofs.laws.drop_law.Goals as goal

pub returns : goal.returns
returns c = drop_law
