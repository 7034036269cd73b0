use Rattle.listing_read.proofs.schedule.by_first_word.Goals as goal

pub returns-then-eq-3-clause-range : goal.returns-then-eq-3-clause-range
returns-then-eq-3-clause-range c = c.round.ensures.range c.args.harts
