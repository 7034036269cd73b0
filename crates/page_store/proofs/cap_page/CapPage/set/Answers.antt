use Rattle.page_store.proofs.Ranges.{IsCapPage-with_cap}
use Rattle.page_store.proofs.cap_page.CapPage.set.Goals as goal

pub returns-clause-range : goal.returns-clause-range
returns-clause-range c =
    IsCapPage-with_cap c.self.inside.caps _ _ c.kind-kind.ensures.range c.self.invariant
