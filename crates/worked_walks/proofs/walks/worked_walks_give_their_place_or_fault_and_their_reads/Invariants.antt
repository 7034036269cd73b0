use Rattle.worked_walks.proofs.walks.worked_walks_give_their_place_or_fault_and_their_reads.Given as goal

abbrev pub ghosts-check_walks : goal.ghosts-check_walks
ghosts-check_walks g a = record { name = a.permit.name; parts = a.permit.parts }
