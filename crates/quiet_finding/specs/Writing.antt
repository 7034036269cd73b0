-- The tables of which pages a capability may write: what they say of the objects of a model's map, and what a pass over
-- capabilities makes of them. (Own.)
use Rattle.std.specs.Prelude.{◌≡◌, ℕ, ◌<◌, Bool, true, false, ◌||◌, if◌then◌else◌, List, length, slice_index_or, slice_set}
use Rattle.cap_format.specs.declared.kind.CapKind.{CapKind}
use Rattle.cap_format.specs.declared.kind.CapKind.TheVariants.{Page, Range}
use Rattle.cap_format.specs.Capability.{Capability}
use Rattle.cap_format.specs.Weakening.{is_harmless}
use Rattle.object_store.specs.Store.{Store}
use Rattle.quiet_runs.specs.Finding.{is_range, may_write, some_cap}
use Rattle.quiet_finding.specs.Passing.{Finds}

-- which pages a capability names that isn't RO, and whether there is a Range
pub record WritingValue : Type 0 where
  pub pages : List Bool
  pub range : Bool

-- both by their parts
abbrev pub writing : List Bool → Bool → WritingValue
writing pages range = record { pages = pages; range = range }

-- whether a capability may write the page
abbrev pub writes_page : WritingValue → ℕ → Bool
writes_page w n = slice_index_or w.pages n false

-- The tables say of each page of these objects whether a capability may write it, wherever the
-- capability stands, and whether there is a Range.
pub record AreWriting (s : Store) (w : WritingValue) : Type 0 where
  pub pages : (n : ℕ) → writes_page w n ≡ some_cap (may_write n) s
  pub range : w.range ≡ some_cap (λ c. is_range c.kind) s

-- ---- passes

-- the tables after a capability of this kind to this object, which may be harmless
abbrev pub after_writing_kind : CapKind → ℕ → Bool → WritingValue → WritingValue
after_writing_kind Page n harmless w = if harmless then w else writing (slice_set w.pages n true) w.range
after_writing_kind Range n harmless w = writing w.pages true
after_writing_kind _ n harmless w = w

-- the tables after a capability
abbrev pub after_writing : Capability → WritingValue → WritingValue
after_writing c w = after_writing_kind c.kind c.object (is_harmless c) w

-- The tables after capabilities that pass these tests.
pub record WritesAfter (finds : Finds) (old new : WritingValue) : Type 0 where
  pub count : length new.pages ≡ length old.pages
  pub pages : (n : ℕ) → n < length old.pages
      → writes_page new n ≡ (writes_page old n || finds (may_write n))
  pub range : new.range ≡ (old.range || finds (λ c. is_range c.kind))
