use Rattle.worked_rows.proofs.kernel_rows.a_packed_listing_is_unpacked_as_its_migrated_text.Given as goal

abbrev pub ghosts-try_kernel_rows : goal.ghosts-try_kernel_rows
ghosts-try_kernel_rows g a = record { name = a.permit.name; parts = a.permit.parts }
