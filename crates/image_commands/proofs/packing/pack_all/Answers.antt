use Rattle.std.proofs.Common.{◌∙◌, refl, sym, arith}
use Rattle.courses.specs.Course.{cached, ends_in}
use Rattle.courses.specs.declared.exit.Exit.TheVariants.{ScheduleRefused}
use Rattle.courses.proofs.Lacking.{concludes-memory, ends-memory, stop-memory}
use Rattle.courses.proofs.Rests.{stop-ended, stop-stopped}
use Rattle.schedule_replay.specs.Scheduled.{AtEnd, AtFault, AtLimit}
use Rattle.image_commands.specs.Packed.{pack_output}
use Rattle.image_commands.specs.Passed.{passed}
use Rattle.image_commands.proofs.Passing.{tells}
use Rattle.image_commands.proofs.packing.pack_all.Goals as goal

-- all lines were passed over
pub returns-in-None-clause-course : goal.returns-in-None-clause-course
returns-in-None-clause-course g c = λ fetches.
    let p = c.pass_lines-stop.ensures in
    let listing = c.args.listing.now in
    stop-ended g.S.Source.held g.S.Source.faults g.K.Sink.taken g.K.Sink.faults c.args.lines.now _ _ _ _ fetches cached refl
    (passed c.args.lines.now.number) (λ ending. ends_in (pack_output listing ending)) AtEnd AtFault AtLimit ScheduleRefused (tells listing)
    c.pass_lines-stop.result p.passes p.read p.quiet _ fetches _ (sym c.schedule_exit.ensures ∙ c.in-None.is) (record { read = λ bad. cc; write = λ bad. cc; memory = λ bad. cc }) (λ bad. cc)
    c.write_image.ensures (record { whole = λ given. omega arith; most = omega arith }) (λ end. p.told c.requires.told (p.end end))

-- or not
pub returns-in-Some-clause-course : goal.returns-in-Some-clause-course
returns-in-Some-clause-course g c = λ fetches.
    let p = c.pass_lines-stop.ensures in
    let listing = c.args.listing.now in
    stop-stopped g.S.Source.held g.S.Source.faults g.K.Sink.taken g.K.Sink.faults c.args.lines.now _ _ _ _ fetches cached refl
    (passed c.args.lines.now.number) (λ ending. ends_in (pack_output listing ending)) AtEnd AtFault AtLimit ScheduleRefused (tells listing)
    c.pass_lines-stop.result p.passes p.read p.quiet _ fetches _ c.in-Some.exit (sym c.schedule_exit.ensures ∙ c.in-Some.is) c.conclude.ensures refl

-- ---- memory

pub returns-in-None-clause-memory : goal.returns-in-None-clause-memory
returns-in-None-clause-memory g c = ends-memory g.K.Sink.taken g.K.Sink.faults _ _ _ _ (λ bad. cc) c.write_image.ensures

pub returns-in-Some-clause-memory : goal.returns-in-Some-clause-memory
returns-in-Some-clause-memory g c =
    concludes-memory g.K.Sink.taken g.K.Sink.faults _ _ _ c.in-Some.exit
    (stop-memory ScheduleRefused (λ line fault bad. cc) c.pass_lines-stop.result c.in-Some.exit (sym c.schedule_exit.ensures ∙ c.in-Some.is)) c.conclude.ensures
