use Rattle.std.proofs.Common.{false, replicate, ap, ◌∙◌}
use Rattle.object_store.specs.declared.sizes.Sizes.{Sizes}
use Rattle.image_builder.proofs.Further.{flagged_first, process_named, flagged_further}
use Rattle.image_builder.proofs.start.running.Goals as goal

pub each-init : goal.each-init
each-init c =
    c.in_ok-all.ensures.items_if_clones_equal (λ y same. same)
    ∙ (ap (λ (sizes : Sizes). replicate sizes.processes false) c.sizes.ensures.value ∙ flagged_first c.args.listing.now.sizes.processes)

pub note_running-requires : goal.note_running-requires
note_running-requires c =
    let told = c.statements-statement-items.ensures in
    process_named _ _ _ _ _ told.value c.each-test.true c.statement-item.is _ _ c.each.invariant told.range

pub each-preserved : goal.each-preserved
each-preserved c =
    flagged_further c.args.listing.now.sizes _ _ _ _ c.statements-statement-items.ensures.value c.each-test.true c.statement-item.is _ _ c.each.invariant c.note_running.ensures
