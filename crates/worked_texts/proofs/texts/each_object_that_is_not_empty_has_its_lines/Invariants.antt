use Rattle.worked_texts.proofs.texts.each_object_that_is_not_empty_has_its_lines.Given as goal

abbrev pub ghosts-put_all_objects : goal.ghosts-put_all_objects
ghosts-put_all_objects g a = record { name = a.permit.name; parts = a.permit.parts }
