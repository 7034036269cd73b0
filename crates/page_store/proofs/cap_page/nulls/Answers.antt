use Rattle.page_store.proofs.Ranges.{IsCapPage-empty_cappage}
use Rattle.page_store.specs.CapPage.{empty_cappage}
use Rattle.page_store.proofs.cap_page.nulls.Goals as goal

pub returns-clause-range : goal.returns-clause-range
unfolding empty_cappage
returns-clause-range c = rw c.null.ensures IsCapPage-empty_cappage
