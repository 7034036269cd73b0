use Rattle.std.proofs.Common.{◌∙◌, ap, refl}
use Rattle.machine_state.specs.State.{state_of}
use Rattle.map_cache.specs.Cache.{kept_of}
use Rattle.courses.proofs.Taken.{takes-listing, takes-same}
use Rattle.courses.specs.Course.{cached}
use Rattle.reverse_run.specs.History.{History}
use Rattle.back_command.specs.Back.{back_course}
use Rattle.back_command.proofs.Behind.{of-listing}
use Rattle.back_command.proofs.Slots.{slots-behind, slots-unlisted, slots_course}
use Rattle.back_command.proofs.input.back.Goals as goal

pub returns-in-Err-clause-course : goal.returns-in-Err-clause-course
returns-in-Err-clause-course g c = c.in-Err.ensures.ended.takes (back_course c.args.number) cached refl 0

pub answer_lines-requires-clause-none : goal.answer_lines-requires-clause-none
answer_lines-requires-clause-none g c = ap (λ (h : History). h.before) c.in-Ok-new-2.ensures.history

pub returns-clause-course : goal.returns-clause-course
returns-clause-course g c =
    let machine = c.in-Ok-new-2.ensures.machine in
    let harts = ap (λ m. m.objects.harts) machine ∙ ap (λ sizes. sizes.harts) c.in-Ok-boot.ensures.sizes in
    let state = ap (λ m. state_of m) machine ∙ c.in-Ok-boot.ensures.state in
    takes-listing g.S.Source.held g.S.Source.faults g.K.Sink.taken g.K.Sink.faults c.new-lines.result c.read_head.new.lines _ c.in-Ok.listing _ _ _ _ _ _ 0 0 _ cached (back_course c.args.number)
    c.new-lines.ensures c.in-Ok.ensures.listed c.in-Ok.ensures.given c.in-Ok.ensures.silent c.in-Ok.ensures.quiet
    (takes-same g.S.Source.held g.S.Source.faults g.K.Sink.taken g.K.Sink.faults _ _ _ _ _ _ 0 0 _ cached _ _
    (of-listing c.args.number c.in-Ok.listing _ _ _ harts state) c.answer_lines.ensures.course)

pub returns-in-Err-clause-fetched : goal.returns-in-Err-clause-fetched
returns-in-Err-clause-fetched g c = slots-unlisted cached c.args.number _ _ _ _ _ (c.in-Err.ensures.ended.takes (slots_course cached c.args.number) cached refl _).comes

pub returns-clause-fetched : goal.returns-clause-fetched
returns-clause-fetched g c =
    let machine = c.in-Ok-new-2.ensures.machine in
    let harts = ap (λ m. m.objects.harts) machine ∙ ap (λ sizes. sizes.harts) c.in-Ok-boot.ensures.sizes in
    let state = ap (λ m. state_of m) machine ∙ c.in-Ok-boot.ensures.state in
    let blank = ap (λ m. kept_of m.translator) machine ∙ ap kept_of c.in-Ok-boot.ensures.translator ∙ c.in-Ok-new.ensures.nothing in
    slots-behind _ blank c.args.number c.in-Ok.listing _ _ _ state harts _ _ c.new-lines.result c.read_head.new.lines refl c.new-lines.ensures c.in-Ok.ensures.listed _ _ c.answer_lines.result c.answer_lines.ensures.fetched
