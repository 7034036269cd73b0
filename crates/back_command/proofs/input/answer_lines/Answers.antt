use Rattle.std.proofs.Common.{◌∙◌, length, Some, refl, sym, ap, arith}
use Rattle.machine_state.specs.State.{state_of}
use Rattle.schedule_replay.specs.Counts.{events_alone}
use Rattle.schedule_replay.specs.Scheduled.{AtEnd, AtFault, AtLimit, Scheduled, scheduled}
use Rattle.courses.specs.Course.{cached}
use Rattle.courses.specs.declared.exit.Exit.TheVariants.{OutOfMemory, ScheduleRefused}
use Rattle.courses.proofs.Concluding.{concludes-own}
use Rattle.courses.proofs.Endings.{ends_text}
use Rattle.courses.proofs.Lasts.{ends-own}
use Rattle.courses.proofs.Rests.{at, follows-rest, stop-ended, stop-given, stop-stopped}
use Rattle.back_command.specs.Back.{undoing}
use Rattle.back_command.proofs.Concluding.{tells}
use Rattle.back_command.proofs.Histories.{text-at}
use Rattle.back_command.proofs.Slots.{slots-ended, slots-stopped}
use Rattle.back_command.proofs.input.answer_lines.Goals as goal

-- all lines were read
pub returns-in-None-clause-course : goal.returns-in-None-clause-course
returns-in-None-clause-course g c =
    let e = c.run_lines-stop.ensures in
    let m = c.args.reversible.now.machine in
    let harts = m.objects.harts in
    let events = e.runs.events in
    stop-ended g.S.Source.held g.S.Source.faults g.K.Sink.taken g.K.Sink.faults c.args.lines.now _ _ _ _ 0 cached refl
    (scheduled harts c.args.lines.now.number) (undoing c.args.number (state_of m)) (at events AtEnd) (λ line fault. at events (AtFault line fault)) (at events AtLimit) ScheduleRefused
    (tells c.args.number (state_of m) events) c.run_lines-stop.result (follows-rest (λ (all : Scheduled). events_alone (length all.events)) harts _ _ _ _ events (events_alone (length events)) c.run_lines-stop.result e.runs.follows) e.read e.quiet _ 0 _
    (sym c.schedule_exit.ensures ∙ c.in-None.is) (record { read = λ bad. cc; write = λ bad. cc; memory = λ bad. cc }) (λ bad. cc)
    (ends_text _ _ _ _ _ _ _ _ (text-at c.args.number (state_of m) _ events e.runs.history) c.tell_undone.ensures.ends)
    (record { whole = λ given. refl; most = omega arith }) (λ end. e.told c.requires.told (e.end end))

pub returns-in-None-clause-memory : goal.returns-in-None-clause-memory
returns-in-None-clause-memory g c = λ memory. let bad = ends-own _ _ _ _ _ _ c.tell_undone.ensures.ends OutOfMemory (λ cut. cc) memory in cc

-- or not
pub returns-in-Some-clause-course : goal.returns-in-Some-clause-course
returns-in-Some-clause-course g c =
    let e = c.run_lines-stop.ensures in
    let m = c.args.reversible.now.machine in
    let harts = m.objects.harts in
    let events = e.runs.events in
    stop-stopped g.S.Source.held g.S.Source.faults g.K.Sink.taken g.K.Sink.faults c.args.lines.now _ _ _ _ 0 cached refl
    (scheduled harts c.args.lines.now.number) (undoing c.args.number (state_of m)) (at events AtEnd) (λ line fault. at events (AtFault line fault)) (at events AtLimit) ScheduleRefused
    (tells c.args.number (state_of m) events) c.run_lines-stop.result (follows-rest (λ (all : Scheduled). events_alone (length all.events)) harts _ _ _ _ events (events_alone (length events)) c.run_lines-stop.result e.runs.follows) e.read e.quiet _ 0 _
    c.in-Some.exit (sym c.schedule_exit.ensures ∙ c.in-Some.is) c.conclude.ensures refl

pub returns-in-Some-clause-memory : goal.returns-in-Some-clause-memory
returns-in-Some-clause-memory g c = λ memory.
    stop-given ScheduleRefused (λ line fault bad. cc) c.run_lines-stop.result
    (sym c.schedule_exit.ensures ∙ c.in-Some.is ∙ ap Some (concludes-own g.K.Sink.taken g.K.Sink.faults _ _ _ c.in-Some.exit c.conclude.ensures OutOfMemory (λ bad. cc) memory))

-- ---- slots

pub returns-in-None-clause-fetched : goal.returns-in-None-clause-fetched
returns-in-None-clause-fetched g c =
    let m = c.args.reversible.now.machine in
    slots-ended g.T.Translator.cost g.T.Translator.after g.T.Translator.without (g.T.Translator.kept m.translator) c.args.number m.objects.harts (state_of m) _ c.args.lines.now _ _ _ _ _ c.run_lines-stop.result
    c.run_lines-stop.ensures.runs _ _ (sym c.schedule_exit.ensures ∙ c.in-None.is) c.tell_undone.ensures.fetched

pub returns-in-Some-clause-fetched : goal.returns-in-Some-clause-fetched
returns-in-Some-clause-fetched g c =
    let m = c.args.reversible.now.machine in
    slots-stopped g.T.Translator.cost g.T.Translator.after g.T.Translator.without (g.T.Translator.kept m.translator) c.args.number m.objects.harts (state_of m) _ c.args.lines.now _ _ _ _ _ c.run_lines-stop.result
    c.run_lines-stop.ensures.runs g.K.Sink.taken g.K.Sink.faults _ _ _ c.in-Some.exit c.run_lines-stop.result refl (sym c.schedule_exit.ensures ∙ c.in-Some.is) c.conclude.ensures
