use Rattle.std.proofs.Common.{sym, ◌∙◌, subst}
use Rattle.cap_format.specs.Spelling.{Spells}
use Rattle.image_binary.proofs.SpelledCaps.{no_spelling, is_counted, is_uncounted}
use Rattle.image_binary.proofs.spelled.uncounted_of.Goals as goal

pub returns-in_default-clause-value : goal.returns-in_default-clause-value
returns-in_default-clause-value c =
    sym (no_spelling c.args.bytes.now (λ d spells.
    c.in_default.not-Ok d (c.decode.ensures.exact d (subst (λ l. Spells l d) (sym c.copy_from_slice.ensures.after) spells))))

pub returns-then-count-ne0-clause-value : goal.returns-then-count-ne0-clause-value
returns-then-count-ne0-clause-value c =
    sym (is_counted c.args.bytes.now c.in-Ok.cap (subst (λ l. Spells l c.in-Ok.cap) c.copy_from_slice.ensures.after c.in-Ok.ensures.ok)
    (λ none. c.if-count-ne0.true (c.count.ensures.value ∙ none)))

pub returns-clause-value : goal.returns-clause-value
returns-clause-value c =
    sym (is_uncounted c.args.bytes.now c.in-Ok.cap (subst (λ l. Spells l c.in-Ok.cap) c.copy_from_slice.ensures.after c.in-Ok.ensures.ok)
    (sym c.count.ensures.value ∙ c.if-count-ne0.false))
