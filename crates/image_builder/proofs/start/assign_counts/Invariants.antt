use Rattle.std.proofs.Common.{◌≡◌, take}
use Rattle.image_builder.specs.Given.{final_counts}
use Rattle.image_builder.specs.Assigned.{empty_with}
use Rattle.image_builder.proofs.start.assign_counts.Given as goal

abbrev pub invariant-each : goal.invariant-each
invariant-each l = l.objects ≡ empty_with l.fn.listing.sizes (final_counts l.fn.listing.sizes (take l.statement-index l.fn.listing.statements))
