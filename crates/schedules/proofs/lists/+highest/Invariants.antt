use Rattle.schedules.proofs.lists.+highest.Given as goal

abbrev pub decreases-highest : goal.decreases-highest
decreases-highest l = l.count
