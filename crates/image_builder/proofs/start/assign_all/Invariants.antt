use Rattle.std.proofs.Common.{◌≡◌, take}
use Rattle.image_builder.specs.Given.{final_counts, final_objects}
use Rattle.image_builder.proofs.start.assign_all.Given as goal

abbrev pub invariant-each : goal.invariant-each
invariant-each l = l.objects ≡ final_objects (final_counts l.fn.listing.sizes l.fn.listing.statements) (take l.statement-index l.fn.listing.statements) l.fn.listing.sizes
