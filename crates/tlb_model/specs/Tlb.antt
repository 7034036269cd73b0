-- A hart's cache as the list of its entries, oldest first (this project's own).
use Rattle.std.specs.Prelude.{◌≡◌, ◌≤◌, ℕ, nat_lt, not, ◌||◌, ◌==◌, if◌then◌else◌, List, [], ◌∷◌, ◌++◌, length, filter, drop, Option, Some, None, ⊤}
use Rattle.guard_math.specs.Block.{BlockValue, holds}
use Rattle.sv32_tables.specs.declared.leaf.Leaf.{Leaf}
use Rattle.tlb_model.specs.declared.entry.Entry.{Entry}
use Rattle.tlb_model.specs.Entry.{entry_of, is_of}

-- the leaf that is held for a page of a root
abbrev pub look : List Entry → ℕ → ℕ → Option Leaf
look [] root page = None
look (entry ∷ rest) root page = if is_of root page entry then Some entry.leaf else look rest root page

-- the entries but that of a page of a root
abbrev pub without_page : List Entry → ℕ → ℕ → List Entry
without_page entries root page = filter (λ entry. not (is_of root page entry)) entries

-- the entries but those of a root whose page is one of the block's
abbrev pub without_block : List Entry → ℕ → BlockValue → List Entry
without_block entries root block = filter (λ entry. not (entry.root == root) || not (holds block entry.page)) entries

-- the entries but the oldest, where there are 64
abbrev pub room : List Entry → List Entry
room entries = if nat_lt (length entries) 64 then entries else drop 1 entries

-- What a fill leaves: first the entry of the same page of the root goes, then the oldest where 64 are left, and
-- the new one comes last.
abbrev pub filled : List Entry → ℕ → ℕ → Leaf → List Entry
filled entries root page leaf = room (without_page entries root page) ++ entry_of root page leaf ∷ []

-- no entry has another of the same page of its root behind it
abbrev pub IsSingle : List Entry → Type 0
IsSingle [] = ⊤
IsSingle (entry ∷ rest) = (look rest entry.root entry.page ≡ None) × IsSingle rest

-- at most 64 entries, no two of the same page of a root
pub record IsTlb (entries : List Entry) : Type 0 where
  pub size : length entries ≤ 64
  pub single : IsSingle entries
