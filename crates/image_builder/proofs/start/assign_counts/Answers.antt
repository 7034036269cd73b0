use Rattle.std.proofs.Common.{◌∙◌}
use Rattle.image_builder.proofs.Finals.{final_counts-nil}
use Rattle.image_builder.proofs.Further.{count_stated, counted_further}
use Rattle.image_builder.proofs.start.assign_counts.Goals as goal

pub each-init : goal.each-init
each-init c = c.requires ∙ final_counts-nil c.args.listing.now.sizes

pub assign_count-requires : goal.assign_count-requires
assign_count-requires c =
    let told = c.statements-statement-items.ensures in
    count_stated _ _ _ _ _ told.value c.each-test.true c.statement-item.is _ c.each.invariant told.range

pub each-preserved : goal.each-preserved
each-preserved c = counted_further _ _ _ _ _ c.statements-statement-items.ensures.value c.each-test.true c.statement-item.is _ _ c.each.invariant c.assign_count.ensures
