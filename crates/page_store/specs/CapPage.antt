-- Capability pages: lists of 256 capabilities.
use Rattle.std.specs.Prelude.{◌≡◌, ℕ, List, length, replicate, slice_index_or, slice_set}
use Rattle.std.specs.List.{All}
use Rattle.cap_format.specs.Capability.{Capability, IsCapability, null}

-- what each capability page keeps: its 256 capabilities are in their ranges (this project's)
pub record IsCapPage (page : List Capability) : Type 0 where
  pub size : length page ≡ 256
  pub slots : All IsCapability page

-- the capability in slot `i`, and Null where there is no such slot
abbrev pub cap_at : List Capability → ℕ → Capability
cap_at page i = slice_index_or page i null

-- the page with another capability in slot `i`, and all else the same
abbrev pub with_cap : List Capability → ℕ → Capability → List Capability
with_cap page i cap = slice_set page i cap

-- the empty capability page: Null in each slot (this project's)
unfoldable pub empty_cappage : List Capability
empty_cappage = replicate 256 null
