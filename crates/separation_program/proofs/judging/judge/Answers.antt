use Rattle.std.proofs.Common.{◌∙◌, ap, refl, sym}
use Rattle.kernel_core.specs.State.{state_of}
use Rattle.courses.specs.Stopped.{replay_exit}
use Rattle.courses.proofs.Concluding.{concludes-open}
use Rattle.courses.proofs.Lacking.{concludes-memory, replay-memory}
use Rattle.courses.proofs.Rests.{run-ends}
use Rattle.separation_program.specs.Slots.{judged_slots}
use Rattle.separation_program.specs.Theorem.{TellsOf}
use Rattle.separation_program.proofs.Concluding.{judge-ended, judge-stopped, judged-run, no_write, unfinished}
use Rattle.separation_program.proofs.Judges.{from-start}
use Rattle.separation_program.proofs.Slots.{lacks-ended, slots-ended, slots-stopped}
use Rattle.separation_program.proofs.judging.judge.Goals as goal

pub returns-in-Ok-clause-course : goal.returns-in-Ok-clause-course
returns-in-Ok-clause-course g c =
    let e = c.replay-replayed.ensures in
    let given = sym c.counts_or_exit.ensures ∙ c.in-Ok.is in
    from-start g.S.Source.held g.S.Source.faults g.K.Sink.taken g.K.Sink.faults _ _ _ _ _ _ _ _ _ _ (e.silent refl)
    (judge-ended g.S.Source.held g.S.Source.faults g.K.Sink.taken g.K.Sink.faults c.args.aim c.args.policy.now (state_of c.args.machine.now) c.args.machine.now.objects.harts
    c.args.lines.now c.replay-replayed.new.lines _ _ c.replay-replayed.new.output _ _ e.replays.0.events c.replay-replayed.result e.replays.0.follows c.in-Ok._counts given
    (e.reasons.read_quiet (λ same. let bad = sym given ∙ ap replay_exit same in cc)) (e.told c.requires.told (e.end c.in-Ok._counts (run-ends c.in-Ok._counts c.replay-replayed.result given)))
    (state_of c.replay-replayed.new.machine) e.replays.0.ran.state c.tell_for.ensures.ends c.tell_for.ensures.unwritten)

pub returns-in-Err-clause-course : goal.returns-in-Err-clause-course
returns-in-Err-clause-course g c =
    let e = c.replay-replayed.ensures in
    let given = sym c.counts_or_exit.ensures ∙ c.in-Err.is in
    from-start g.S.Source.held g.S.Source.faults g.K.Sink.taken g.K.Sink.faults _ _ _ _ _ _ _ _ _ _ (e.silent refl)
    (judge-stopped g.S.Source.held g.S.Source.faults g.K.Sink.taken g.K.Sink.faults c.args.aim c.args.policy.now (state_of c.args.machine.now) c.args.machine.now.objects.harts
    c.args.lines.now c.replay-replayed.new.lines _ _ c.replay-replayed.new.output _ _ e.replays.0.events c.replay-replayed.result e.replays.0.follows c.in-Err.exit c.replay-replayed.result refl given
    (no_write (state_of c.args.machine.now) _ _ e.replays.0.events c.replay-replayed.result e.replays.0.text) e.reasons.read e.reasons.read_quiet c.conclude.ensures)

pub returns-in-Ok-clause-judged : goal.returns-in-Ok-clause-judged
returns-in-Ok-clause-judged g c = λ done.
    let e = c.replay-replayed.ensures in
    judged-run g.S.Source.held g.S.Source.faults g.K.Sink.taken g.K.Sink.faults c.args.aim c.args.policy.now (state_of c.args.machine.now) c.args.machine.now.objects.harts
    c.args.lines.now c.replay-replayed.new.lines _ _ c.replay-replayed.new.output c.tell_for.new.output c.tell_for.result e.replays.0.events c.replay-replayed.result e.replays.0.follows
    (TellsOf c.args.aim c.tell_for.result) c.in-Ok._counts (sym c.counts_or_exit.ensures ∙ c.in-Ok.is) (state_of c.replay-replayed.new.machine) e.replays.0.ran.state c.tell_for.ensures.tells

pub returns-in-Err-clause-judged : goal.returns-in-Err-clause-judged
returns-in-Err-clause-judged g c = λ done.
    absurd (concludes-open g.K.Sink.taken g.K.Sink.faults _ _ _ c.in-Err.exit (unfinished c.in-Err.exit c.replay-replayed.result (sym c.counts_or_exit.ensures ∙ c.in-Err.is)) c.conclude.ensures done)

pub returns-in-Ok-clause-fetched : goal.returns-in-Ok-clause-fetched
returns-in-Ok-clause-fetched g c =
    let e = c.replay-replayed.ensures in
    let given = sym c.counts_or_exit.ensures ∙ c.in-Ok.is in
    slots-ended g.T.Translator c.args.machine.now c.replay-replayed.new.machine (judged_slots c.args.aim) c.args.policy.now c.args.machine.now.objects.harts
    c.args.lines.now c.replay-replayed.new.lines _ _ e.replays.0.events _ _ c.replay-replayed.result e.replays.0.ran e.replays.0.follows _ c.tell_for.result c.in-Ok._counts given c.tell_for.ensures.fetched

pub returns-in-Err-clause-fetched : goal.returns-in-Err-clause-fetched
returns-in-Err-clause-fetched g c =
    let e = c.replay-replayed.ensures in
    let given = sym c.counts_or_exit.ensures ∙ c.in-Err.is in
    slots-stopped g.T.Translator c.args.machine.now c.replay-replayed.new.machine (judged_slots c.args.aim) c.args.policy.now c.args.machine.now.objects.harts
    c.args.lines.now c.replay-replayed.new.lines _ _ e.replays.0.events _ _ c.replay-replayed.result e.replays.0.ran e.replays.0.follows g.K.Sink.taken g.K.Sink.faults _ _ _ c.in-Err.exit c.replay-replayed.result refl
    (no_write (state_of c.args.machine.now) _ _ e.replays.0.events c.replay-replayed.result e.replays.0.text) given c.conclude.ensures

-- ---- where memory is wanting

pub returns-in-Ok-clause-end : goal.returns-in-Ok-clause-end
returns-in-Ok-clause-end g c = λ lacks.
    let e = c.replay-replayed.ensures in
    let given = sym c.counts_or_exit.ensures ∙ c.in-Ok.is in
    e.told c.requires.told (e.end c.in-Ok._counts (run-ends c.in-Ok._counts c.replay-replayed.result given))

pub returns-in-Err-clause-end : goal.returns-in-Err-clause-end
returns-in-Err-clause-end g c = λ lacks.
    absurd (concludes-memory g.K.Sink.taken g.K.Sink.faults _ _ _ c.in-Err.exit
    (replay-memory c.replay-replayed.result c.in-Err.exit (sym c.counts_or_exit.ensures ∙ c.in-Err.is)) c.conclude.ensures lacks)

pub returns-in-Ok-clause-wanting : goal.returns-in-Ok-clause-wanting
returns-in-Ok-clause-wanting g c = λ lacks.
    let e = c.replay-replayed.ensures in
    let given = sym c.counts_or_exit.ensures ∙ c.in-Ok.is in
    lacks-ended g.T.Translator c.args.machine.now c.replay-replayed.new.machine (judged_slots c.args.aim) c.args.policy.now c.args.machine.now.objects.harts
    c.args.lines.now c.replay-replayed.new.lines _ _ e.replays.0.events _ _ c.replay-replayed.result e.replays.0.ran e.replays.0.follows c.args.aim _ c.in-Ok._counts given (c.tell_for.ensures.wanting lacks)

pub returns-in-Err-clause-wanting : goal.returns-in-Err-clause-wanting
returns-in-Err-clause-wanting g c = λ lacks.
    absurd (concludes-memory g.K.Sink.taken g.K.Sink.faults _ _ _ c.in-Err.exit
    (replay-memory c.replay-replayed.result c.in-Err.exit (sym c.counts_or_exit.ensures ∙ c.in-Err.is)) c.conclude.ensures lacks)
