use Rattle.std.proofs.Common.{◌≡◌, ◌-◌, length}
use Rattle.image_binary.proofs.Follows.{Follows}
use Rattle.image_binary.proofs.unpacking.read_image.Given as goal

-- the statements so far were read of the bytes taken so far
abbrev pub invariant-statements : goal.invariant-statements
invariant-statements g l = record {
  follows : Follows (g.S.Source.held l.fn.input) (g.S.Source.held l.input) l.reader l.head.sizes l.listing.statements (l.head.count - l.counter);
  sizes : l.listing.sizes ≡ l.head.sizes;
  many : length l.listing.statements ≡ l.counter;
  quiet : g.S.Source.faults l.input ≡ g.S.Source.faults l.fn.input;
}
