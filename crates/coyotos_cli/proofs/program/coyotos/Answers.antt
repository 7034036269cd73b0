use Rattle.std.proofs.Common.{◌∙◌, Some, inl, inr, refl, sym, ap, map, string_bytes}
use Rattle.courses.specs.Course.{HasEntries}
use Rattle.courses.proofs.Standing.{stands-unread}
use Rattle.coyotos_cli.specs.Command.{has_cache}
use Rattle.coyotos_words.specs.declared.command.Command.TheVariants.{Confine, Migrate, Pack}
use Rattle.confine_command.specs.Decided.{IsDecided}
use Rattle.image_commands.specs.Same.{IsImageOf}
use Rattle.migrate_command.specs.Same.{IsMigrated}
use Rattle.coyotos_cli.proofs.Words.{answers-words, completes-words, known-words, fetches-words, shares-words, sure-words, form-words, form-memory, text-words}
use Rattle.coyotos_cli.proofs.program.coyotos.Goals as goal

pub returns-in-Err-clause-form : goal.returns-in-Err-clause-form
returns-in-Err-clause-form g c = form-memory string_bytes c.args.words.now c.read_command.result _ c.in-Err.is c.read_command.ensures.early

pub returns-in-Err-clause-wanting : goal.returns-in-Err-clause-wanting
returns-in-Err-clause-wanting g c = λ other same. stands-unread _

pub returns-in-Ok-None-clause-wanting : goal.returns-in-Ok-None-clause-wanting
returns-in-Ok-None-clause-wanting g c = λ other same. stands-unread _

pub returns-clause-answers : goal.returns-clause-answers
returns-clause-answers g c =
    let asked = sym c.in-Ok-Some.ensures.asked ∙ c.in-Ok-Some.field-0-is in
    answers-words (map string_bytes c.args.words.now) _ asked _ _ _ _ _ _ c.answer.ensures.comes c.answer.ensures.unwritten

pub returns-clause-complete : goal.returns-clause-complete
returns-clause-complete g c =
    let asked = sym c.in-Ok-Some.ensures.asked ∙ c.in-Ok-Some.field-0-is in
    let answers = answers-words (map string_bytes c.args.words.now) _ asked _ _ _ _ _ _ c.answer.ensures.comes c.answer.ensures.unwritten in
    completes-words _ _ _ _ _ _ _ _ _ answers c.answer.ensures.causes

pub returns-clause-sure : goal.returns-clause-sure
returns-clause-sure g c =
    let asked = sym c.in-Ok-Some.ensures.asked ∙ c.in-Ok-Some.field-0-is in
    λ fault. sure-words (map string_bytes c.args.words.now) _ asked _ _ _ _ _ _ (c.answer.ensures.sure fault)

pub returns-clause-form : goal.returns-clause-form
returns-clause-form g c =
    let asked = sym c.in-Ok-Some.ensures.asked ∙ c.in-Ok-Some.field-0-is in
    form-words (map string_bytes c.args.words.now) _ asked _ c.answer.ensures.usage c.answer.ensures.memory

pub returns-clause-fetches : goal.returns-clause-fetches
returns-clause-fetches g c =
    let asked = sym c.in-Ok-Some.ensures.asked ∙ c.in-Ok-Some.field-0-is in
    fetches-words (map string_bytes c.args.words.now) _ asked _ _ _ _ _ _ c.answer.ensures.comes c.answer.ensures.stays c.answer.ensures.unspent

pub returns-clause-shared : goal.returns-clause-shared
returns-clause-shared g c =
    let asked = sym c.in-Ok-Some.ensures.asked ∙ c.in-Ok-Some.field-0-is in
    shares-words (map string_bytes c.args.words.now) _ asked _ _ _ _ c.answer.ensures.fewer c.answer.ensures.bounded

pub returns-clause-entries : goal.returns-clause-entries
returns-clause-entries g c =
    let asked = sym c.in-Ok-Some.ensures.asked ∙ c.in-Ok-Some.field-0-is in
    λ done has. known-words HasEntries (map string_bytes c.args.words.now) _ asked _ (c.answer.ensures.entries done (sym (ap has_cache asked) ∙ has))

pub returns-clause-migrated : goal.returns-clause-migrated
returns-clause-migrated g c =
    let asked = sym c.in-Ok-Some.ensures.asked ∙ c.in-Ok-Some.field-0-is in
    λ is done. text-words (map string_bytes c.args.words.now) _ asked IsMigrated Migrate is _ (λ same. c.answer.ensures.migrated same done)

pub returns-clause-packed : goal.returns-clause-packed
returns-clause-packed g c =
    let asked = sym c.in-Ok-Some.ensures.asked ∙ c.in-Ok-Some.field-0-is in
    λ is done. text-words (map string_bytes c.args.words.now) _ asked IsImageOf Pack is _ (λ same. c.answer.ensures.packed same done)

pub returns-clause-decided : goal.returns-clause-decided
returns-clause-decided g c =
    let asked = sym c.in-Ok-Some.ensures.asked ∙ c.in-Ok-Some.field-0-is in
    λ is done. text-words (map string_bytes c.args.words.now) _ asked IsDecided Confine is _ (λ same. c.answer.ensures.decided same done)

pub returns-clause-wanting : goal.returns-clause-wanting
returns-clause-wanting g c =
    let asked = sym c.in-Ok-Some.ensures.asked ∙ c.in-Ok-Some.field-0-is in
    λ other. c.answer.ensures.wanting (λ same. other (asked ∙ ap Some same))

pub returns-in-Err-clause-wanting_image : goal.returns-in-Err-clause-wanting_image
returns-in-Err-clause-wanting_image g c = λ is same. inl refl

pub returns-in-Ok-None-clause-wanting_image : goal.returns-in-Ok-None-clause-wanting_image
returns-in-Ok-None-clause-wanting_image g c = λ is same. inl refl

pub returns-clause-wanting_image : goal.returns-clause-wanting_image
returns-clause-wanting_image g c = λ is same.
    let asked = sym c.in-Ok-Some.ensures.asked ∙ c.in-Ok-Some.field-0-is in
    inr (c.answer.ensures.wanting_image (let both = sym asked ∙ is in cc) same)
