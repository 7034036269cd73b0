use Rattle.worked_questions.proofs.atoms.atoms_hold_where_they_say.Given as goal

abbrev pub ghosts-check_all : goal.ghosts-check_all
ghosts-check_all g a = record { name = a.permit.name; parts = a.permit.parts }
