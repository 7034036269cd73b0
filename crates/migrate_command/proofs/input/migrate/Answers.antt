use Rattle.std.proofs.Common.{refl}
use Rattle.courses.proofs.Taken.{takes-listing}
use Rattle.courses.specs.Course.{cached}
use Rattle.courses.specs.Migrated.{migrate_course}
use Rattle.migrate_command.proofs.Again.{bytes-migrated}
use Rattle.migrate_command.proofs.input.migrate.Goals as goal

pub returns-in-Err-clause-course : goal.returns-in-Err-clause-course
returns-in-Err-clause-course g c = c.in-Err.ensures.ended.takes migrate_course cached refl

pub returns-clause-course : goal.returns-clause-course
returns-clause-course g c = λ fetches.
    takes-listing g.S.Source.held g.S.Source.faults g.K.Sink.taken g.K.Sink.faults c.new-lines.result c.read_head.new.lines _ c.in-Ok.listing _ _ _ _ _ _ fetches fetches _ cached migrate_course
    c.new-lines.ensures c.in-Ok.ensures.listed c.in-Ok.ensures.given c.in-Ok.ensures.silent c.in-Ok.ensures.quiet (c.write_all.ensures.course fetches)

pub returns-clause-migrated : goal.returns-clause-migrated
returns-clause-migrated g c = λ done.
    bytes-migrated _ _ c.new-lines.result c.read_head.new.lines c.in-Ok.listing c.new-lines.ensures c.in-Ok.ensures.listed (c.write_all.ensures.again done)
