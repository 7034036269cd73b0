use Rattle.std.proofs.Common.{◌≡◌, ◌≤◌, ◌+◌, ◌++◌, map, take}
use Rattle.arrayvec.specs.ArrayVec.{array_vec_len}
use Rattle.producers.specs.Producer.{cut}
use Rattle.shared_leaves.specs.Kept.{background_reads}
use Rattle.shared_leaves.proofs.additions.entry_reads.Given as goal

abbrev pub invariant-reads : goal.invariant-reads
invariant-reads l = record {
  value : l.entry_reads.items ≡ background_reads l.fn.background ++ map cut (take l.read-index l.reads);
  room : array_vec_len l.entry_reads ≤ 1 + l.read-index;
}
