use Rattle.worked_rows.proofs.failures.a_long_run_tells_its_lines_up_to_the_call_that_fails.Given as goal

abbrev pub ghosts-try_pager : goal.ghosts-try_pager
ghosts-try_pager g a = record { name = a.permit.name; parts = a.permit.parts }
