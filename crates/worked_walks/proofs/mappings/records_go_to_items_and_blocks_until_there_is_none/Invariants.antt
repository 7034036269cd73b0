use Rattle.worked_walks.proofs.mappings.records_go_to_items_and_blocks_until_there_is_none.Given as goal

abbrev pub ghosts-perform_all : goal.ghosts-perform_all
ghosts-perform_all g a = record { name = a.permit.name; parts = a.permit.parts }
