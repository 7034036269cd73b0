use Rattle.std.proofs.Common.{◌∙◌, Err, ap, refl, sym}
use Rattle.map_cache.specs.Cache.{kept_of}
use Rattle.map_cache.specs.Kept.{cost_of, kept_after, kept_without, nothing}
use Rattle.courses.specs.declared.exit.Exit.TheVariants.{Done}
use Rattle.courses.proofs.Concluding.{concludes-own}
use Rattle.courses.proofs.Lacking.{concludes-memory, ends-memory, replay-memory}
use Rattle.courses.proofs.Running.{run-ended, run-stopped}
use Rattle.schedule_commands.specs.Finished.{runner_of}
use Rattle.schedule_commands.proofs.RunEntries.{replays-mode, run-entries, undone}
use Rattle.schedule_commands.proofs.schedule.answer_lines.Goals as goal

pub returns-in-Ok-clause-course : goal.returns-in-Ok-clause-course
returns-in-Ok-clause-course g c =
    let l = c.replay-replayed.ensures in
    let replays = replays-mode kept_of cost_of kept_after kept_without _ _ _ _ _ _ _ _ _ _ _ _ _ c.mode_of.ensures l.replays.0 in
    run-ended kept_of cost_of kept_after kept_without nothing (runner_of c.args.command) c.args.machine.now c.replay-replayed.new.machine c.requires.nothing
    g.S.Source.held g.S.Source.faults g.K.Sink.taken g.K.Sink.faults _ _ _ _ _ _ _ _ _ replays l.reasons (λ counts is. l.told c.requires.told (l.end counts is)) _ _ _ c.in-Ok.counts
    (sym c.counts_or_exit.ensures ∙ c.in-Ok.is) c.finish.ensures.ends c.finish.ensures.fetched

pub returns-in-Err-clause-course : goal.returns-in-Err-clause-course
returns-in-Err-clause-course g c =
    let l = c.replay-replayed.ensures in
    let replays = replays-mode kept_of cost_of kept_after kept_without _ _ _ _ _ _ _ _ _ _ _ _ _ c.mode_of.ensures l.replays.0 in
    run-stopped kept_of cost_of kept_after kept_without nothing (runner_of c.args.command) c.args.machine.now c.replay-replayed.new.machine c.requires.nothing
    g.S.Source.held g.S.Source.faults g.K.Sink.taken g.K.Sink.faults _ _ _ _ _ _ c.args.fetches.now c.replay-replayed.new.fetches c.replay-replayed.result replays l.reasons (λ counts is. l.told c.requires.told (l.end counts is)) _ c.replay-replayed.new.fetches _ c.in-Err.exit
    (sym c.counts_or_exit.ensures ∙ c.in-Err.is) c.conclude.ensures refl

pub returns-in-Ok-clause-entries : goal.returns-in-Ok-clause-entries
returns-in-Ok-clause-entries g c = λ done.
    let replays = replays-mode kept_of cost_of kept_after kept_without _ _ _ _ _ _ _ _ _ _ _ _ _ c.mode_of.ensures c.replay-replayed.ensures.replays.0 in
    run-entries c.args.command c.args.machine.now _ _ _ _ _ _ _ _ _ c.in-Ok.counts _ (sym c.counts_or_exit.ensures ∙ c.in-Ok.is) c.requires.nothing replays c.tell_entries.ensures

pub returns-in-Err-clause-entries : goal.returns-in-Err-clause-entries
returns-in-Err-clause-entries g c = λ done.
    let own = concludes-own g.K.Sink.taken g.K.Sink.faults _ _ _ c.in-Err.exit c.conclude.ensures Done (λ bad. cc) done in
    absurd (undone c.replay-replayed.result (sym c.counts_or_exit.ensures ∙ c.in-Err.is ∙ ap Err own))

pub returns-in-Ok-clause-memory : goal.returns-in-Ok-clause-memory
returns-in-Ok-clause-memory g c = ends-memory g.K.Sink.taken g.K.Sink.faults _ _ _ _ (λ bad. cc) c.finish.ensures.ends

pub returns-in-Err-clause-memory : goal.returns-in-Err-clause-memory
returns-in-Err-clause-memory g c =
    concludes-memory g.K.Sink.taken g.K.Sink.faults _ _ _ c.in-Err.exit
    (replay-memory c.replay-replayed.result c.in-Err.exit (sym c.counts_or_exit.ensures ∙ c.in-Err.is)) c.conclude.ensures
