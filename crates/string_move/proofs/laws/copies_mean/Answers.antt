use Rattle.string_move.proofs.Moves.{copied_means}
use Rattle.string_move.proofs.laws.copies_mean.Goals as goal

pub returns : goal.returns
returns c = copied_means
