use Rattle.std.proofs.Common.{◌≡◌, ◌≢◌, ℕ, ◌<◌, length}
use Rattle.cap_format.specs.declared.kind.CapKind.{CapKind}
use Rattle.cap_format.specs.declared.kind.CapKind.TheVariants.{Process}
use Rattle.object_store.specs.Object.{IsAmong}
use Rattle.machine_state.specs.Past.{names_in, used}
use Rattle.reverse_run.specs.Remembered.{StandsFor}
use Rattle.reverse_run.proofs.remembering.keep_processes.Given as goal

abbrev pub invariant-each : goal.invariant-each
invariant-each g l = record {
  stands : StandsFor l.past l.machine;
  all : (n : ℕ) → n < l.p → IsAmong Process n (names_in l.past);
  others : (k : CapKind) → k ≢ Process → used k l.past.places ≡ 0;
  count : length l.past.places ≡ l.p;
  unread : l.fetches ≡ l.fn.fetches;
}
