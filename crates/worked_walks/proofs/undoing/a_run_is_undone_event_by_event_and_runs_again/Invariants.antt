use Rattle.worked_walks.proofs.undoing.a_run_is_undone_event_by_event_and_runs_again.Given as goal

abbrev pub ghosts-run_rows : goal.ghosts-run_rows
ghosts-run_rows g a = record { name = a.permit.name; parts = a.permit.parts }
