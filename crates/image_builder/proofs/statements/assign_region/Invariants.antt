use Rattle.std.proofs.Common.{◌≡◌}
use Rattle.image_builder.specs.Assigned.{with_region}
use Rattle.image_builder.proofs.statements.assign_region.Given as goal

abbrev pub invariant-each : goal.invariant-each
invariant-each l = record {
  done : l.objects ≡ with_region l.fn.objects l.gpt l.slot l.page l.restr.0 l.i;
  counts : l.objects.items.counts ≡ l.fn.objects.items.counts;
}
