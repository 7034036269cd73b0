-- What keeps pages in their ranges.
use Rattle.std.proofs.Common.{ℕ, ◌∙◌, List}
use Rattle.std.proofs.lemmas.List.{length-replicate, length-set}
use Rattle.std.proofs.lemmas.List.Elements.{All-set, All-replicate}
use Rattle.cap_format.specs.Capability.{Capability, IsCapability, null}
use Rattle.cap_format.proofs.Ranges.{IsCapability-null, IsCapability-at}
use Rattle.page_store.specs.CapPage.{IsCapPage, cap_at, with_cap, empty_cappage}

-- the empty capability page is in its ranges
pub IsCapPage-empty_cappage : IsCapPage empty_cappage
unfolding empty_cappage
IsCapPage-empty_cappage = record { size = length-replicate 256 null; slots = All-replicate IsCapability 256 null IsCapability-null }

-- a write to a slot keeps a capability page in its ranges
pub IsCapPage-with_cap : (page : List Capability) (i : ℕ) (cap : Capability) → IsCapability cap → IsCapPage page → IsCapPage (with_cap page i cap)
IsCapPage-with_cap page i cap in_range is = record {
  size = length-set page i cap ∙ is.size;
  slots = All-set IsCapability page i cap in_range is.slots;
}

-- each read of a slot gives a capability in its ranges, also past the end
pub IsCapability-cap_at : (page : List Capability) (i : ℕ) → IsCapPage page → IsCapability (cap_at page i)
IsCapability-cap_at page i is = IsCapability-at page i is.slots
