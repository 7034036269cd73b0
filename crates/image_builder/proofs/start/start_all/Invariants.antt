use Rattle.std.proofs.Common.{◌≡◌, false}
use Rattle.std.specs.Prelude.{slice_index_or}
use Rattle.object_store.specs.Store.{sizes_of}
use Rattle.machine_state.specs.State.{state_of}
use Rattle.image_builder.specs.Boot.{made_ready, StoppedFrom}
use Rattle.image_builder.proofs.start.start_all.Given as goal

abbrev pub invariant-each : goal.invariant-each
invariant-each g l = record {
  state : state_of l.machine ≡ made_ready (λ p. slice_index_or l.running p false) l.p (state_of l.fn.machine);
  translator : l.machine.translator ≡ l.fn.machine.translator;
  sizes : sizes_of l.machine.objects ≡ sizes_of l.fn.machine.objects;
  stopped : StoppedFrom l.p l.machine.objects;
}
