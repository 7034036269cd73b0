use Rattle.std.proofs.Common.{◌≡◌, ◌∙◌, Some, None, map, string_bytes, ap, subst, sym}
use Rattle.courses.specs.Course.{cached, course_output}
use Rattle.courses.specs.Ending.{Outputs}
use Rattle.courses.specs.Program.{whole_course}
use Rattle.courses.proofs.Bytes.{known-output}
use Rattle.separation_program.specs.Program.{asked_by, separation}
use Rattle.separation_program.specs.Slots.{WantsFor}
use Rattle.separation_program.specs.declared.words.Aim.{Aim}
use Rattle.separation_program.specs.declared.words.Asked.TheVariants.{Help, Judge}
use Rattle.separation_program.proofs.Called.{aims-same, completes-known, fetches-words, form-judge, judges-call, judges-none, known-words, sure-words}
use Rattle.separation_program.proofs.Lacking.{lacks-for}
use Rattle.separation_program.proofs.program.separation.Goals as goal

-- ---- the input is judged

pub returns-in-Some-Judge-clause-answers : goal.returns-in-Some-Judge-clause-answers
returns-in-Some-Judge-clause-answers g c =
    let aim : Aim = c.in-Some-Judge.aim in
    let asked : asked_by (map string_bytes c.args.words.now) ≡ Some (Judge aim) = sym c.read_words.ensures ∙ c.in-Some-Judge.is ∙ ap Some c.in-Some-Judge.field-0-is in
    known-words (λ course. Outputs (g.K.Sink.taken c.args.output.now) (g.K.Sink.taken c.separate.new.output) c.separate.result (course_output course)) (map string_bytes c.args.words.now) (Some (Judge aim)) asked _
    (known-output _ _ _ 0 0 _ cached _ c.separate.ensures.course.comes)

pub returns-in-Some-Judge-clause-complete : goal.returns-in-Some-Judge-clause-complete
returns-in-Some-Judge-clause-complete g c = λ read write.
    completes-known _ _ _ _ _ _ _ _ (whole_course separation (map string_bytes c.args.words.now)) (returns-in-Some-Judge-clause-answers g c) c.separate.ensures.course.causes read write

pub returns-in-Some-Judge-clause-judges : goal.returns-in-Some-Judge-clause-judges
returns-in-Some-Judge-clause-judges g c =
    let asked : asked_by (map string_bytes c.args.words.now) ≡ Some (Judge c.in-Some-Judge.aim) = sym c.read_words.ensures ∙ c.in-Some-Judge.is ∙ ap Some c.in-Some-Judge.field-0-is in
    judges-call (map string_bytes c.args.words.now) c.in-Some-Judge.aim asked _ _ _ c.separate.result c.separate.ensures.course.comes c.separate.ensures.judged

pub returns-in-Some-Judge-clause-sure : goal.returns-in-Some-Judge-clause-sure
returns-in-Some-Judge-clause-sure g c = λ failed.
    let asked : asked_by (map string_bytes c.args.words.now) ≡ Some (Judge c.in-Some-Judge.aim) = sym c.read_words.ensures ∙ c.in-Some-Judge.is ∙ ap Some c.in-Some-Judge.field-0-is in
    sure-words (map string_bytes c.args.words.now) c.in-Some-Judge.aim asked _ _ _ _ (c.separate.ensures.course.sure failed).writes

pub returns-in-Some-Judge-clause-fetches : goal.returns-in-Some-Judge-clause-fetches
returns-in-Some-Judge-clause-fetches g c =
    let asked : asked_by (map string_bytes c.args.words.now) ≡ Some (Judge c.in-Some-Judge.aim) = sym c.read_words.ensures ∙ c.in-Some-Judge.is ∙ ap Some c.in-Some-Judge.field-0-is in
    fetches-words (map string_bytes c.args.words.now) c.in-Some-Judge.aim asked _ _ _ c.separate.result c.separate.ensures.fetched
    (λ lacks. lacks-for c.in-Some-Judge.aim _ _ _ _ (c.separate.ensures.wanting lacks))

pub returns-in-Some-Judge-clause-form : goal.returns-in-Some-Judge-clause-form
returns-in-Some-Judge-clause-form g c =
    let asked : asked_by (map string_bytes c.args.words.now) ≡ Some (Judge c.in-Some-Judge.aim) = sym c.read_words.ensures ∙ c.in-Some-Judge.is ∙ ap Some c.in-Some-Judge.field-0-is in
    form-judge (map string_bytes c.args.words.now) c.in-Some-Judge.aim asked c.separate.result c.separate.ensures.course.usage

pub returns-in-Some-Judge-clause-wanting : goal.returns-in-Some-Judge-clause-wanting
returns-in-Some-Judge-clause-wanting g c = λ aim also lacks.
    let asked : asked_by (map string_bytes c.args.words.now) ≡ Some (Judge c.in-Some-Judge.aim) = sym c.read_words.ensures ∙ c.in-Some-Judge.is ∙ ap Some c.in-Some-Judge.field-0-is in
    subst (λ a. WantsFor a (g.S.Source.held c.args.input.now) (g.S.Source.held c.separate.new.input) c.args.fetches.now c.separate.new.fetches) (aims-same (map string_bytes c.args.words.now) c.in-Some-Judge.aim aim asked also)
    (c.separate.ensures.wanting lacks)

-- ---- it is not

pub returns-in-Some-Help-clause-judges : goal.returns-in-Some-Help-clause-judges
returns-in-Some-Help-clause-judges g c =
    judges-none (map string_bytes c.args.words.now) _ c.usage.result
    (λ aim asked. let bad : Some Help ≡ Some (Judge aim) = sym (c.in-Some-Help.is ∙ ap Some c.in-Some-Help.field-0-is) ∙ c.read_words.ensures ∙ asked in cc)

pub returns-in-None-clause-judges : goal.returns-in-None-clause-judges
returns-in-None-clause-judges g c =
    judges-none (map string_bytes c.args.words.now) _ c.usage-in-None.result
    (λ aim asked. let bad : None ≡ Some (Judge aim) = sym c.in-None.is ∙ c.read_words.ensures ∙ asked in cc)
