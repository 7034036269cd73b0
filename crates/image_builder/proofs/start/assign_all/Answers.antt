use Rattle.std.proofs.Common.{◌∙◌}
use Rattle.image_builder.proofs.Finals.{final_objects-nil}
use Rattle.image_builder.proofs.Further.{thing_stated, assigned_further}
use Rattle.image_builder.proofs.start.assign_all.Goals as goal

pub each-init : goal.each-init
each-init c = c.requires ∙ final_objects-nil c.args.listing.now.sizes _

pub assign-requires : goal.assign-requires
assign-requires c =
    let told = c.statements-statement-items.ensures in
    thing_stated _ _ _ _ _ told.value c.each-test.true c.statement-item.is _ c.each.invariant told.range

pub each-preserved : goal.each-preserved
each-preserved c =
    let told = c.statements-statement-items.ensures in
    assigned_further _ _ _ _ _ told.value c.each-test.true c.statement-item.is _ _ c.each.invariant told.range c.assign.ensures
