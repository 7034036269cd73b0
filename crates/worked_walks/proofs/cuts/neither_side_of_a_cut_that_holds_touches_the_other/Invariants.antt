use Rattle.worked_walks.proofs.cuts.neither_side_of_a_cut_that_holds_touches_the_other.Given as goal

abbrev pub ghosts-take_turns : goal.ghosts-take_turns
ghosts-take_turns g a = record { name = a.permit.name; parts = a.permit.parts }
