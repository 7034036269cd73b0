use Rattle.std.proofs.Common.{◌≤◌, ◌+◌, ◌*◌}
use Rattle.cap_format.specs.declared.kind.CapKind.TheVariants.{Gpt}
use Rattle.object_store.specs.Store.{size_of}
use Rattle.object_store.specs.Meaning.{state_map}
use Rattle.quiet_finding.specs.Passing.{IsWithin}
use Rattle.quiet_finding.proofs.comers.Comers.new.Given as goal

abbrev pub invariant-each : goal.invariant-each
invariant-each g l = record {
  within : IsWithin (state_map l.objects) l.counter l.last;
  least : l.fn.fetches ≤ l.fetches;
  most : l.fetches ≤ l.fn.fetches + 16 * size_of l.objects.items Gpt * (l.counter + 1);
}
