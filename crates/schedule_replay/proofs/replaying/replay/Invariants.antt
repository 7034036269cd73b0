use Rattle.std.proofs.Common.{◌≡◌, ◌≤◌, ◌+◌, ◌*◌, ◌^◌, false, length}
use Rattle.coy_io.specs.Limits.{input_limit}
use Rattle.coy_io.specs.Reader.{TellsEnd}
use Rattle.schedule_replay.specs.Events.{left, OfHarts}
use Rattle.schedule_replay.specs.declared.mode.Mode.TheVariants.{Silent}
use Rattle.schedule_replay.proofs.SoFar.{SoFar}
use Rattle.schedule_replay.proofs.replaying.replay.Given as goal

abbrev pub invariant-each : goal.invariant-each
invariant-each g l = record {
  so_far : SoFar g.T.Translator.kept g.T.Translator.cost g.T.Translator.after g.T.Translator.without
      g.T.Translator.cache g.T.Translator.less l.mode l.fn.machine l.fn.lines (g.S.Source.held l.fn.source) (g.K.Sink.taken l.fn.output) l.fn.fetches
      l.machine l.lines (g.S.Source.held l.source) (g.K.Sink.taken l.output) l.fetches l.counts (left l.left);
  harts : l.harts ≡ l.fn.machine.objects.harts;
  there : OfHarts l.harts (left l.left);
  few : length (left l.left) ≤ 255000000;
  bound : l.lines.number ≤ l.fn.lines.number + input_limit + 1;
  going : l.lines.failed ≡ false;
  told : TellsEnd l.fn.lines (g.S.Source.held l.fn.source) → TellsEnd l.lines (g.S.Source.held l.source);
  read : g.S.Source.faults l.source ≡ g.S.Source.faults l.fn.source;
  write : g.K.Sink.faults l.output ≡ g.K.Sink.faults l.fn.output;
  silent : l.mode ≡ Silent → l.output ≡ l.fn.output;
}

abbrev pub decreases-each : goal.decreases-each
decreases-each g l = l.lines.room * 2 ^ 28 + length (left l.left)
