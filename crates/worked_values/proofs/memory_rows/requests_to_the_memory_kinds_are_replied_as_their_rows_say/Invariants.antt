use Rattle.worked_values.proofs.memory_rows.requests_to_the_memory_kinds_are_replied_as_their_rows_say.Given as goal

abbrev pub ghosts-perform_all : goal.ghosts-perform_all
ghosts-perform_all g a = record { name = a.permit.name; parts = a.permit.parts }
