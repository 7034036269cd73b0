use Rattle.string_move.specs.Move.{ArePieces}
use Rattle.worked_values.proofs.strings.pieces.Given as goal

-- the pieces so far are of pages that are there
abbrev pub invariant-loop-piece : goal.invariant-loop-piece
invariant-loop-piece g l = ArePieces l.objects.items l.pieces
