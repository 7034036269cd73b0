use Rattle.std.proofs.Common.{◌≡◌, ◌≢◌, ℕ, ◌+◌, ◌≤◌, take, length}
use Rattle.cap_format.specs.declared.kind.CapKind.{CapKind}
use Rattle.cap_format.specs.declared.kind.CapKind.TheVariants.{Page}
use Rattle.object_store.specs.Object.{IsAmong}
use Rattle.string_move.specs.Move.{page_names}
use Rattle.machine_state.specs.Past.{names_in, used}
use Rattle.reverse_run.specs.Remembered.{StandsFor, Remembers}
use Rattle.reverse_run.proofs.remembering.keep_pages.Given as goal

abbrev pub invariant-each : goal.invariant-each
invariant-each g l = record {
  stands : StandsFor l.past l.machine;
  more : (kind : CapKind) (n : ℕ) → IsAmong kind n (names_in l.fn.past) → IsAmong kind n (names_in l.past);
  kept : Remembers l.past l.machine.objects (page_names (take l.i l.list));
  pages : used Page l.past.places ≤ l.i;
  count : length l.past.places ≤ 257 + l.i;
  others : (k : CapKind) → k ≢ Page → used k l.past.places ≤ used k l.fn.past.places;
  unread : l.fetches ≡ l.fn.fetches;
}
