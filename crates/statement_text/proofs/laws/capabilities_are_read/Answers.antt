use Rattle.statement_text.proofs.Capabilities.{cap_of-cap_text}
use Rattle.statement_text.proofs.laws.capabilities_are_read.Goals as goal

pub returns : goal.returns
returns c = λ terms cap in_range stated. cap_of-cap_text terms cap in_range stated.there
