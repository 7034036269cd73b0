use Rattle.separation.proofs.main.Given as goal

abbrev pub ghosts-run_program : goal.ghosts-run_program
ghosts-run_program a = record { name = a.permit.name; parts = a.permit.parts }
