use Rattle.worked_rows.proofs.explore_rows.rows_of_explore_give_what_is_written_down_for_them.Given as goal

abbrev pub ghosts-try_in_pieces : goal.ghosts-try_in_pieces
ghosts-try_in_pieces g a = record { name = a.permit.name; parts = a.permit.parts }
