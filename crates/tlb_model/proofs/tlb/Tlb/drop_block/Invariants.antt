use Rattle.std.proofs.Common.{◌≡◌, ◌≤◌, length, take}
use Rattle.tlb_model.specs.Tlb.{without_block}
use Rattle.tlb_model.proofs.tlb.Tlb.drop_block.Given as goal

abbrev pub invariant-entries : goal.invariant-entries
invariant-entries l = record {
  kept : l.kept.items ≡ without_block (take l.entry-index l.entry-items) l.root l.block;
  room : length l.kept.items ≤ l.entry-index;
}
