use Rattle.worked_rows.proofs.turns.a_line_is_run_before_the_next_is_read.Given as goal

abbrev pub ghosts-run : goal.ghosts-run
ghosts-run g a = record { name = a.permit.name; parts = a.permit.parts }
