use Rattle.std.proofs.Common.{◌∙◌, ap, refl, sym}
use Rattle.courses.proofs.Lacking.{concludes-memory, ends-memory, replay-memory}
use Rattle.schedule_commands.proofs.Counts.{count-ended, count-stopped, counted-harts}
use Rattle.schedule_commands.proofs.counting.count_schedule.Goals as goal

pub returns-in-Ok-clause-course : goal.returns-in-Ok-clause-course
returns-in-Ok-clause-course g c = λ fetches.
    let l = c.count_lines-answer.ensures in
    let counted = counted-harts _ _ _ _ _ _ _ (ap (λ sizes. sizes.harts) c.sizes-harts.ensures.value) l.counted in
    count-ended g.S.Source.held g.S.Source.faults g.K.Sink.taken g.K.Sink.faults c.args.lines.now _ _ _ _ _ fetches _ _ c.count_lines-answer.result counted l.reasons c.in-Ok.counts
    (sym c.counts_or_exit.ensures ∙ c.in-Ok.is) c.count.ensures (λ is. l.told c.requires.told (l.end c.in-Ok.counts is))

pub returns-in-Err-clause-course : goal.returns-in-Err-clause-course
returns-in-Err-clause-course g c = λ fetches.
    let l = c.count_lines-answer.ensures in
    let counted = counted-harts _ _ _ _ _ _ _ (ap (λ sizes. sizes.harts) c.sizes-harts.ensures.value) l.counted in
    count-stopped g.S.Source.held g.S.Source.faults g.K.Sink.taken g.K.Sink.faults c.args.lines.now _ _ _ _ _ fetches _ _ c.count_lines-answer.result counted l.reasons c.in-Err.exit
    c.count_lines-answer.result refl (sym c.counts_or_exit.ensures ∙ c.in-Err.is) c.conclude.ensures

pub returns-in-Ok-clause-memory : goal.returns-in-Ok-clause-memory
returns-in-Ok-clause-memory g c = ends-memory g.K.Sink.taken g.K.Sink.faults _ _ _ _ (λ bad. cc) c.count.ensures

pub returns-in-Err-clause-memory : goal.returns-in-Err-clause-memory
returns-in-Err-clause-memory g c =
    concludes-memory g.K.Sink.taken g.K.Sink.faults _ _ _ c.in-Err.exit
    (replay-memory c.count_lines-answer.result c.in-Err.exit (sym c.counts_or_exit.ensures ∙ c.in-Err.is)) c.conclude.ensures
