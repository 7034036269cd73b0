use Rattle.std.proofs.Common.{◌≡◌, ◌∙◌, true, false, ap, inl, inr, refl, sym}
use Rattle.courses.proofs.Taken.{takes-listing, takes-same}
use Rattle.courses.specs.Course.{cached}
use Rattle.separation_policy.specs.Making.{first_policy}
use Rattle.separation_program.specs.Judged.{separation_course}
use Rattle.separation_program.specs.Text.{told_for}
use Rattle.separation_program.specs.Theorem.{TellsOf}
use Rattle.separation_program.proofs.Called.{judged-bytes, of-listing}
use Rattle.separation_program.proofs.Lacking.{lacks-behind}
use Rattle.separation_program.proofs.Slots.{slots-behind, slots-unlisted, slots_course}
use Rattle.separation_program.proofs.input.separate.Goals as goal

pub returns-in-Err-clause-course : goal.returns-in-Err-clause-course
returns-in-Err-clause-course g c = c.in-Err.ensures.ended.takes (separation_course (told_for c.args.aim)) cached refl 0

pub returns-in-Err-clause-judged : goal.returns-in-Err-clause-judged
returns-in-Err-clause-judged g c = λ done. let bad : false ≡ true = sym c.in-Err.ensures.ended.unfinished ∙ done in cc

pub returns-clause-course : goal.returns-clause-course
returns-clause-course g c =
    let harts = ap (λ sizes. sizes.harts) c.in-Ok-boot.ensures.sizes in
    let start = c.in-Ok-new.ensures ∙ ap first_policy c.sizes.ensures.value in
    takes-listing g.S.Source.held g.S.Source.faults g.K.Sink.taken g.K.Sink.faults c.new-lines.result c.read_head.new.lines _ c.in-Ok.listing _ _ _ _ _ _ 0 0 _ cached (separation_course (told_for c.args.aim))
    c.new-lines.ensures c.in-Ok.ensures.listed c.in-Ok.ensures.given c.in-Ok.ensures.silent c.in-Ok.ensures.quiet
    (takes-same g.S.Source.held g.S.Source.faults g.K.Sink.taken g.K.Sink.faults _ _ _ _ _ _ 0 0 _ cached _ _
    (of-listing c.in-Ok.listing _ _ _ _ c.in-Ok-boot.ensures.state harts start c.args.aim) c.judge_lines.ensures.course)

pub returns-clause-judged : goal.returns-clause-judged
returns-clause-judged g c = λ done.
    let harts = ap (λ sizes. sizes.harts) c.in-Ok-boot.ensures.sizes in
    let start = c.in-Ok-new.ensures ∙ ap first_policy c.sizes.ensures.value in
    judged-bytes c.in-Ok.listing _ _ _ _ c.in-Ok-boot.ensures.state harts start (TellsOf c.args.aim c.judge_lines.result) _ _ c.new-lines.result c.read_head.new.lines refl
    c.new-lines.ensures c.in-Ok.ensures.listed (c.judge_lines.ensures.judged done)

pub returns-in-Err-clause-fetched : goal.returns-in-Err-clause-fetched
returns-in-Err-clause-fetched g c = slots-unlisted c.args.aim _ _ _ _ _ (c.in-Err.ensures.ended.takes (slots_course c.args.aim) cached refl _).comes

pub returns-clause-fetched : goal.returns-clause-fetched
returns-clause-fetched g c =
    let harts = ap (λ sizes. sizes.harts) c.in-Ok-boot.ensures.sizes in
    let start = c.in-Ok-new.ensures ∙ ap first_policy c.sizes.ensures.value in
    slots-behind c.args.aim c.in-Ok.listing _ _ _ _ c.in-Ok-boot.ensures.state harts start _ _ c.new-lines.result c.read_head.new.lines refl c.new-lines.ensures c.in-Ok.ensures.listed _ _ c.judge_lines.result c.judge_lines.ensures.fetched

-- ---- where memory is wanting

pub returns-in-Err-clause-wanting : goal.returns-in-Err-clause-wanting
returns-in-Err-clause-wanting g c = λ lacks. inl (c.in-Err.ensures.wanting lacks, refl)

pub returns-in_default-clause-wanting : goal.returns-in_default-clause-wanting
returns-in_default-clause-wanting g c = λ lacks. inl (c.in-Ok.ensures.standing, refl)

pub returns-in_default-new-clause-wanting : goal.returns-in_default-new-clause-wanting
returns-in_default-new-clause-wanting g c = λ lacks. inl (c.in-Ok.ensures.standing, refl)

pub returns-clause-wanting : goal.returns-clause-wanting
returns-clause-wanting g c = λ lacks.
    let harts = ap (λ sizes. sizes.harts) c.in-Ok-boot.ensures.sizes in
    let start = c.in-Ok-new.ensures ∙ ap first_policy c.sizes.ensures.value in
    inr (
      c.judge_lines.ensures.end lacks,
      lacks-behind c.args.aim c.in-Ok.listing _ _ _ _ c.in-Ok-boot.ensures.state harts start _ _ c.new-lines.result c.read_head.new.lines refl c.new-lines.ensures c.in-Ok.ensures.listed _ _
          (c.judge_lines.ensures.wanting lacks),
    )
