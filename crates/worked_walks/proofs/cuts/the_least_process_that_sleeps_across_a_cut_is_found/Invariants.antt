use Rattle.worked_walks.proofs.cuts.the_least_process_that_sleeps_across_a_cut_is_found.Given as goal

abbrev pub ghosts-find_sleepers : goal.ghosts-find_sleepers
ghosts-find_sleepers g a = record { name = a.permit.name; parts = a.permit.parts }
