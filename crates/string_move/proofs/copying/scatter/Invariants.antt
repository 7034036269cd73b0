use Rattle.std.proofs.Common.{◌≡◌, ◌+◌, ◌≤◌, length, drop}
use Rattle.string_move.specs.Move.{size_of_pieces, scattered}
use Rattle.string_move.proofs.copying.scatter.Given as goal

-- what is left to be written makes of the objects what all makes of them at the start
abbrev pub invariant-loop-piece : goal.invariant-loop-piece
invariant-loop-piece l = record {
  same : scattered l.objects (drop l.piece-index l.to) (drop l.at l.bytes) ≡ scattered l.fn.objects l.to l.bytes;
  items : l.objects.items ≡ l.fn.objects.items;
  rest : l.at + size_of_pieces (drop l.piece-index l.to) ≤ length l.bytes;
}
