use Rattle.tlb_model.proofs.Found.{fill_law}
use Rattle.tlb_model.proofs.laws.fill_law.Goals as goal

pub returns : goal.returns
returns c = fill_law
