use Rattle.std.proofs.Common.{◌≡◌, ◌-◌, ℕ, List, length}
use Rattle.image_binary.specs.Reader.{Fills}
use Rattle.image_binary.proofs.unpacking.read_statement.Given as goal

-- the bytes that came so far, with no fault of the source
abbrev pub invariant-reading : goal.invariant-reading
invariant-reading g l = record {
  fills : (got : List ℕ) × Fills l.fn.reader l.reader (g.S.Source.held l.fn.input) (g.S.Source.held l.input) got;
  quiet : g.S.Source.faults l.input ≡ g.S.Source.faults l.fn.input;
}

abbrev pub decreases-reading : goal.decreases-reading
decreases-reading g l = 4096 - length l.reader.held
