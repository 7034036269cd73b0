use Rattle.worked_walks.proofs.sharings.spaces_that_come_to_a_gpt_alike_share_a_leaf_table.Given as goal

abbrev pub ghosts-perform_all : goal.ghosts-perform_all
ghosts-perform_all g a = record { name = a.permit.name; parts = a.permit.parts }
