use Rattle.statement_text.proofs.Listed.{nothing, one, both, listing_listed}
use Rattle.statement_text.proofs.laws.texts_are_listed.Goals as goal

pub returns : goal.returns
returns c = record { nothing = nothing; one = one; both = both; whole = listing_listed }
