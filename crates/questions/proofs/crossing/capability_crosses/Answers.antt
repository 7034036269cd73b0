use Rattle.std.proofs.Common.{◌∙◌, sym}
use Rattle.questions.proofs.Any.{any-first, any-second}
use Rattle.questions.proofs.crossing.capability_crosses.Goals as goal

pub returns-then-in_pages-clause-value : goal.returns-then-in_pages-clause-value
returns-then-in_pages-clause-value g c = any-first _ _ (sym c.kind_crosses-in_pages.ensures.value ∙ c.if-in_pages.true)

pub returns-then-in_gpts-clause-value : goal.returns-then-in_gpts-clause-value
returns-then-in_gpts-clause-value g c =
    any-second _ _ _ (sym c.kind_crosses-in_pages.ensures.value ∙ c.if-in_pages.false)
    (any-first _ _ (sym c.kind_crosses-in_gpts.ensures.value ∙ c.if-in_gpts.true))

pub returns-then-in_endpoints-clause-value : goal.returns-then-in_endpoints-clause-value
returns-then-in_endpoints-clause-value g c =
    any-second _ _ _ (sym c.kind_crosses-in_pages.ensures.value ∙ c.if-in_pages.false)
    (any-second _ _ _ (sym c.kind_crosses-in_gpts.ensures.value ∙ c.if-in_gpts.false)
    (any-first _ _ (sym c.kind_crosses-in_endpoints.ensures.value ∙ c.if-in_endpoints.true)))

pub returns-clause-value : goal.returns-clause-value
returns-clause-value g c =
    any-second _ _ _ (sym c.kind_crosses-in_pages.ensures.value ∙ c.if-in_pages.false)
    (any-second _ _ _ (sym c.kind_crosses-in_gpts.ensures.value ∙ c.if-in_gpts.false)
    (any-second _ _ _ (sym c.kind_crosses-in_endpoints.ensures.value ∙ c.if-in_endpoints.false) c.kind_crosses.ensures.value))
