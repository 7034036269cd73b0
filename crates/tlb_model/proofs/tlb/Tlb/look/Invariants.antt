use Rattle.std.proofs.Common.{◌≡◌, drop}
use Rattle.tlb_model.specs.Tlb.{look}
use Rattle.tlb_model.proofs.tlb.Tlb.look.Given as goal

abbrev pub invariant-entries : goal.invariant-entries
invariant-entries l = look l.entry-items l.root l.page ≡ look (drop l.entry-index l.entry-items) l.root l.page
