use Rattle.worked_rows.proofs.kernel_rows.kernel_rows_are_undone_to_their_start.Given as goal

abbrev pub ghosts-try_kernel_rows : goal.ghosts-try_kernel_rows
ghosts-try_kernel_rows g a = record { name = a.permit.name; parts = a.permit.parts }
