use Rattle.std.proofs.Common.{◌≡◌, ◌≤◌, ◌+◌, ◌*◌, ◌^◌, false, length}
use Rattle.coy_io.specs.Reader.{TellsEnd}
use Rattle.machine_state.specs.State.{state_of}
use Rattle.reverse_run.specs.History.{history_of}
use Rattle.schedule_replay.specs.Events.{left, OfHarts}
use Rattle.back_command.specs.Back.{most_remembered}
use Rattle.back_command.proofs.Remembering.{SoFar}
use Rattle.back_command.proofs.running.run_lines.Given as goal

abbrev pub invariant-each : goal.invariant-each
invariant-each g l = record {
  so_far : SoFar g.T.Translator.cost g.T.Translator.after g.T.Translator.without (g.T.Translator.kept l.fn.reversible.machine.translator)
      l.fn.reversible.machine.objects.harts (state_of l.fn.reversible.machine) l.fn.lines (g.S.Source.held l.fn.source) l.fn.fetches
      (history_of l.reversible) l.lines (g.S.Source.held l.source) (left l.left) (g.T.Translator.kept l.reversible.machine.translator) l.fetches;
  harts : l.harts ≡ l.fn.reversible.machine.objects.harts;
  same : l.reversible.machine.objects.harts ≡ l.fn.reversible.machine.objects.harts;
  depth : l.reversible.depth ≡ most_remembered;
  there : OfHarts l.harts (left l.left);
  few : length (left l.left) ≤ 255000000;
  going : l.lines.failed ≡ false;
  told : TellsEnd l.fn.lines (g.S.Source.held l.fn.source) → TellsEnd l.lines (g.S.Source.held l.source);
  read : g.S.Source.faults l.source ≡ g.S.Source.faults l.fn.source;
}

abbrev pub decreases-each : goal.decreases-each
decreases-each g l = l.lines.room * 2 ^ 28 + length (left l.left)
