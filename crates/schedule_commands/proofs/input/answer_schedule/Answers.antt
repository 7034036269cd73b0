use Rattle.std.proofs.Common.{◌∙◌, ap, refl}
use Rattle.map_cache.specs.Cache.{kept_of}
use Rattle.courses.proofs.Bytes.{on_bytes, on_parts-same}
use Rattle.courses.proofs.Taken.{takes-listing, takes-same}
use Rattle.courses.specs.Course.{HasEntries, cached}
use Rattle.schedule_commands.specs.Finished.{schedule_course}
use Rattle.schedule_commands.proofs.Behind.{of-listing}
use Rattle.schedule_commands.proofs.input.answer_schedule.Goals as goal

pub answer_lines-requires-clause-nothing : goal.answer_lines-requires-clause-nothing
answer_lines-requires-clause-nothing g c = ap kept_of c.in-Ok-boot.ensures.translator ∙ c.in-Ok-new.ensures.nothing

pub returns-in-Err-clause-course : goal.returns-in-Err-clause-course
returns-in-Err-clause-course g c = c.in-Err.ensures.ended.takes (schedule_course c.args.command) cached refl _

pub returns-clause-course : goal.returns-clause-course
returns-clause-course g c =
    let harts = ap (λ sizes. sizes.harts) c.in-Ok-boot.ensures.sizes in
    takes-listing g.S.Source.held g.S.Source.faults g.K.Sink.taken g.K.Sink.faults c.new-lines.result c.read_head.new.lines _ c.in-Ok.listing _ _ _ _ _ _ _ _ _ cached (schedule_course c.args.command)
    c.new-lines.ensures c.in-Ok.ensures.listed c.in-Ok.ensures.given c.in-Ok.ensures.silent c.in-Ok.ensures.quiet
    (takes-same g.S.Source.held g.S.Source.faults g.K.Sink.taken g.K.Sink.faults _ _ _ _ _ _ _ _ _ cached _ _
    (of-listing c.args.command c.in-Ok.listing _ _ _ harts c.in-Ok-boot.ensures.state) c.answer_lines.ensures.course)

pub returns-clause-entries : goal.returns-clause-entries
returns-clause-entries g c =
    let harts = ap (λ sizes. sizes.harts) c.in-Ok-boot.ensures.sizes in
    λ done. on_bytes (schedule_course c.args.command) _ _ c.new-lines.result c.read_head.new.lines c.in-Ok.listing HasEntries c.new-lines.ensures c.in-Ok.ensures.listed
    (on_parts-same _ _ _ HasEntries (of-listing c.args.command c.in-Ok.listing _ _ _ harts c.in-Ok-boot.ensures.state) (c.answer_lines.ensures.entries done))
