use Rattle.worked_rows.proofs.failures.a_failing_call_leaves_a_front_of_the_text.Given as goal

abbrev pub ghosts-try_failing_rows : goal.ghosts-try_failing_rows
ghosts-try_failing_rows g a = record { name = a.permit.name; parts = a.permit.parts }
