use Rattle.std.proofs.Common.{◌∙◌, sym, ap, subst}
use Rattle.std.specs.Io.KnownBytes.{Appends}
use Rattle.std.proofs.KnownBytes.{Appends-nil}
use Rattle.schedule_replay.specs.Told.{lines_of}
use Rattle.schedule_replay.proofs.Told.{untold}
use Rattle.schedule_replay.proofs.telling.put_told.Goals as goal

-- where all records are details, nothing is told
pub returns-then-are_untold-clause-text : goal.returns-then-are_untold-clause-text
returns-then-are_untold-clause-text g c =
    subst (Appends _ _) (sym (untold c.args.mode c.as_slice.result.now (sym c.are_untold.ensures ∙ c.if-are_untold.true)) ∙ ap (lines_of c.args.mode) c.as_slice.ensures.value) (Appends-nil (g.K.Sink.taken c.args.output.now))
