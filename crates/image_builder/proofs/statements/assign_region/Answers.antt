use Rattle.std.proofs.Common.{refl, ap, ◌∙◌}
use Rattle.object_store.specs.Store.{Store}
use Rattle.image_builder.specs.Assigned.{with_region}
use Rattle.image_builder.proofs.Regions.{region_further}
use Rattle.image_builder.proofs.statements.assign_region.Goals as goal

pub each-init : goal.each-init
unfolding with_region
each-init c = record { done = refl; counts = refl }

pub each-preserved : goal.each-preserved
each-preserved c = record {
  done = region_further _ _ _ _ _ _ _ _ _ c.each.invariant.done c.region_cap.ensures c.assign_slot.ensures;
  counts = ap (λ (s : Store). s.items.counts) c.assign_slot.ensures ∙ c.each.invariant.counts;
}
