-- What is held for one page of a root.
use Rattle.std.specs.Prelude.{ℕ, Bool, false, ◌&&◌, ◌==◌}
use Rattle.sv32_tables.specs.declared.leaf.Leaf.{Leaf}
use Rattle.tlb_model.specs.declared.entry.Entry.{Entry}

-- an entry by its parts
abbrev pub entry_of : ℕ → ℕ → Leaf → Entry
entry_of root page leaf = record { root = root; page = page; leaf = leaf }

-- the entry that stands in a place that is not used
abbrev pub no_entry : Entry
no_entry = entry_of 0 0 (record { page = 0; write = false; execute = false })

-- whether an entry is of a root and a page
abbrev pub is_of : ℕ → ℕ → Entry → Bool
is_of root page entry = (entry.root == root) && (entry.page == page)
