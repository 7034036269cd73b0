use Rattle.std.proofs.Common.{refl}
use Rattle.courses.proofs.Taken.{takes-listing}
use Rattle.courses.specs.Course.{cached}
use Rattle.schedule_commands.specs.Finished.{check_course}
use Rattle.schedule_commands.proofs.counting.check.Goals as goal

pub returns-in-Err-clause-course : goal.returns-in-Err-clause-course
returns-in-Err-clause-course g c = c.in-Err.ensures.ended.takes check_course cached refl

pub returns-clause-course : goal.returns-clause-course
returns-clause-course g c = λ fetches.
    takes-listing g.S.Source.held g.S.Source.faults g.K.Sink.taken g.K.Sink.faults c.new-lines.result c.read_head.new.lines _ c.in-Ok.listing _ _ _ _ _ _ fetches fetches _ cached check_course
    c.new-lines.ensures c.in-Ok.ensures.listed c.in-Ok.ensures.given c.in-Ok.ensures.silent c.in-Ok.ensures.quiet (c.count_schedule.ensures.course fetches)
