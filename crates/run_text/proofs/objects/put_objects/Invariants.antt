use Rattle.std.proofs.Common.{◌≡◌, ◌+◌}
use Rattle.object_store.specs.Meaning.{state_map}
use Rattle.run_text.specs.Each.{each_below}
use Rattle.run_text.specs.State.{kind_text, kinds}
use Rattle.run_text.proofs.ByKind.{kind_at, reads_before}
use Rattle.coy_io.proofs.Texts.{Written}
use Rattle.run_text.proofs.objects.put_objects.Given as goal

abbrev pub invariant-each : goal.invariant-each
invariant-each g l = record {
  written : Written (g.K.Sink.taken l.fn.output) (g.K.Sink.taken l.output) (g.K.Sink.faults l.fn.output) (g.K.Sink.faults l.output) (each_below (λ place. kind_text (state_map l.objects) (kind_at place)) l.place);
  same : l.kinds ≡ kinds;
  fetches : l.fetches ≡ l.fn.fetches + reads_before l.objects.items l.place;
}
