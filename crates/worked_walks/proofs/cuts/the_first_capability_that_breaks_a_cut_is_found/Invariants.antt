use Rattle.worked_walks.proofs.cuts.the_first_capability_that_breaks_a_cut_is_found.Given as goal

abbrev pub ghosts-find_breaches : goal.ghosts-find_breaches
ghosts-find_breaches g a = record { name = a.permit.name; parts = a.permit.parts }
