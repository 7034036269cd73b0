use Rattle.std.proofs.Common.{◌≡◌, ◌+◌, ◌*◌}
use Rattle.object_store.specs.Meaning.{state_map}
use Rattle.run_text.specs.Each.{each_below}
use Rattle.run_text.specs.Objects.{part_text, reads}
use Rattle.coy_io.proofs.Texts.{Written}
use Rattle.run_text.proofs.parts.put_parts.Given as goal

abbrev pub invariant-each : goal.invariant-each
invariant-each g l = record {
  written : Written (g.K.Sink.taken l.fn.output) (g.K.Sink.taken l.output) (g.K.Sink.faults l.fn.output) (g.K.Sink.faults l.output) (each_below (part_text (state_map l.objects) l.part l.n) l.i);
  fetches : l.fetches ≡ l.fn.fetches + reads l.part * l.i;
}
