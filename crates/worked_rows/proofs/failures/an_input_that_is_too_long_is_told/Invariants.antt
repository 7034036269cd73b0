use Rattle.worked_rows.proofs.failures.an_input_that_is_too_long_is_told.Given as goal

abbrev pub ghosts-run_too_long : goal.ghosts-run_too_long
ghosts-run_too_long g a = record { name = a.permit.name; parts = a.permit.parts }
