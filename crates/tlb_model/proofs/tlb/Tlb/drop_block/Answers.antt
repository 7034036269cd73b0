use Rattle.std.proofs.Common.{◌≡◌, List, ap, ◌∙◌}
use Rattle.std.proofs.lemmas.List.{take_all}
use Rattle.tlb_model.specs.declared.entry.Entry.{Entry}
use Rattle.tlb_model.specs.Tlb.{without_block}
use Rattle.tlb_model.proofs.Kept.{without_block_is}
use Rattle.tlb_model.proofs.tlb.Tlb.drop_block.Goals as goal

left : (c : goal.After-self-1) → c.entries.kept.items ≡ without_block c.self.inside.entries.items c.args.root c.args.block
left c =
    let all = take_all c.entries.entry-index c.as_slice-entry-items.result.now c.entries-test.false in
    c.entries.invariant.kept ∙ ap (λ (es : List Entry). without_block es c.args.root c.args.block) (all ∙ c.as_slice-entry-items.ensures.value)

pub invariant_of-self : goal.invariant_of-self
invariant_of-self c = rw (left c) (without_block_is c.self.inside.entries.items c.args.root c.args.block c.self.invariant)

pub returns-clause-kept : goal.returns-clause-kept
returns-clause-kept c = invariant_of-self c
