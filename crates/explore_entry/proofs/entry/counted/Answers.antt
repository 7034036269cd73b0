use Rattle.explore_entry.proofs.entry.counted.Goals as goal

pub returns-clause-answers : goal.returns-clause-answers
returns-clause-answers g c = c.explore.ensures.answers
