use Rattle.confinement.proofs.Answering.{callee-own}
use Rattle.confinement.proofs.answer_law.Goals as goal

pub returns : goal.returns
returns c cut side s cap each beyond may = callee-own cut side s each beyond cap may
