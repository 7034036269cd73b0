use Rattle.std.proofs.Common.{refl}
use Rattle.courses.proofs.Taken.{takes-listing}
use Rattle.courses.specs.Course.{cached}
use Rattle.image_commands.specs.Packed.{pack_course}
use Rattle.image_commands.proofs.Again.{bytes-image}
use Rattle.image_commands.proofs.packing.answer_pack.Goals as goal

pub returns-in-Err-clause-course : goal.returns-in-Err-clause-course
returns-in-Err-clause-course g c = c.in-Err.ensures.ended.takes pack_course cached refl

pub returns-clause-course : goal.returns-clause-course
returns-clause-course g c = λ fetches.
    takes-listing g.S.Source.held g.S.Source.faults g.K.Sink.taken g.K.Sink.faults c.new-lines.result c.read_head.new.lines _ c.in-Ok.listing _ _ _ _ _ _ fetches fetches _ cached pack_course
    c.new-lines.ensures c.in-Ok.ensures.listed c.in-Ok.ensures.given c.in-Ok.ensures.silent c.in-Ok.ensures.quiet (c.pack_all.ensures.course fetches)

pub returns-clause-packed : goal.returns-clause-packed
returns-clause-packed g c = λ done.
    let comes = rw done at (returns-clause-course g c 0).comes in
    bytes-image _ _ c.new-lines.result c.read_head.new.lines c.in-Ok.listing c.images_are_read.ensures.read c.listing_is_packed.ensures c.new-lines.ensures c.in-Ok.ensures.listed _ _ _ _ comes
