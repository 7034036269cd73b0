use Rattle.std.proofs.Common.{◌≡◌, length}
use Rattle.string_move.proofs.Filled.{IsFilled}
use Rattle.string_move.proofs.copying.gather.Given as goal

abbrev pub invariant-loop-piece : goal.invariant-loop-piece
invariant-loop-piece l = record { filled : IsFilled l.objects l.«from» l.piece-index l.filled l.room; size : length l.room ≡ length l.fn.room }
