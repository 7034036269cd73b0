use Rattle.std.proofs.Common.{◌∙◌, refl, sym, arith}
use Rattle.shared_leaves.specs.Cache.{kept_of}
use Rattle.shared_leaves.specs.Kept.{cost_of, kept_after, kept_without, nothing}
use Rattle.courses.proofs.Lacking.{concludes-memory, ends-memory, replay-memory}
use Rattle.courses.proofs.Running.{run-ended, run-stopped}
use Rattle.share_command.specs.Share.{share_runner}
use Rattle.share_command.proofs.input.answer_lines.Goals as goal

pub returns-in-Ok-clause-course : goal.returns-in-Ok-clause-course
returns-in-Ok-clause-course g c =
    let l = c.replay-replayed.ensures in
    run-ended kept_of cost_of kept_after kept_without nothing share_runner c.args.machine.now c.replay-replayed.new.machine c.requires.nothing
    g.S.Source.held g.S.Source.faults g.K.Sink.taken g.K.Sink.faults _ _ _ _ _ _ _ _ _ l.replays.0 l.reasons (λ counts is. l.told c.requires.told (l.end counts is)) _ _ _ c.in-Ok._counts
    (sym c.counts_or_exit.ensures ∙ c.in-Ok.is) c.tell.ensures (record { whole = λ given. omega arith; most = omega arith })

pub returns-in-Err-clause-course : goal.returns-in-Err-clause-course
returns-in-Err-clause-course g c =
    let l = c.replay-replayed.ensures in
    run-stopped kept_of cost_of kept_after kept_without nothing share_runner c.args.machine.now c.replay-replayed.new.machine c.requires.nothing
    g.S.Source.held g.S.Source.faults g.K.Sink.taken g.K.Sink.faults _ _ _ _ _ _ _ _ _ l.replays.0 l.reasons (λ counts is. l.told c.requires.told (l.end counts is)) _ _ _ c.in-Err.exit
    (sym c.counts_or_exit.ensures ∙ c.in-Err.is) c.conclude.ensures refl

pub returns-in-Ok-clause-memory : goal.returns-in-Ok-clause-memory
returns-in-Ok-clause-memory g c = ends-memory g.K.Sink.taken g.K.Sink.faults _ _ _ _ (λ bad. cc) c.tell.ensures

pub returns-in-Err-clause-memory : goal.returns-in-Err-clause-memory
returns-in-Err-clause-memory g c =
    concludes-memory g.K.Sink.taken g.K.Sink.faults _ _ _ c.in-Err.exit
    (replay-memory c.replay-replayed.result c.in-Err.exit (sym c.counts_or_exit.ensures ∙ c.in-Err.is)) c.conclude.ensures
