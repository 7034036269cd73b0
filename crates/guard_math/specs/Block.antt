-- Blocks of addresses (this project's own).
use Rattle.std.specs.Prelude.{ℕ, Bool, ◌&&◌, nat_le, nat_lt, ◌≡◌, ◌≤◌, ◌<◌, ◌+◌, ◌-◌, ◌*◌, ◌/◌, ◌%◌, ◌^◌}

-- a block: its lowest address, and the logarithm of its size in bytes
pub record BlockValue : Type 0 where
  pub base : ℕ
  pub l2 : ℕ

-- a block by its numbers
abbrev pub block_of : ℕ → ℕ → BlockValue
block_of base l2 = record { base = base; l2 = l2 }

-- a block is a page or more, lies in the space of 2^32 addresses, and begins at a multiple of its size
pub record IsBlock (block : BlockValue) : Type 0 where
  pub low : 12 ≤ block.l2
  pub high : block.l2 ≤ 32
  pub inside : block.base < 2 ^ 32
  pub aligned : block.base % 2 ^ block.l2 ≡ 0

-- the first address behind the block, 2^32 for the last one
abbrev pub end_of : BlockValue → ℕ
end_of block = block.base + 2 ^ block.l2

-- whether an address is one of the block's
abbrev pub covers : BlockValue → ℕ → Bool
covers block address = nat_le block.base address && nat_lt address (end_of block)

-- the block of this size in which the address lies
abbrev pub around : ℕ → ℕ → BlockValue
around address l2 = block_of (address / 2 ^ l2 * 2 ^ l2) l2

-- every address of the inner block is one of the outer
pub record IsWithin (inner outer : BlockValue) : Type 0 where
  pub from : outer.base ≤ inner.base
  pub to : end_of inner ≤ end_of outer

-- the number of the block's first page of 4,096 bytes
abbrev pub first_page : BlockValue → ℕ
first_page block = block.base / 4096

-- how many pages the block has
abbrev pub page_count : BlockValue → ℕ
page_count block = 2 ^ (block.l2 - 12)

-- whether a page, by its number, is one of the block's
abbrev pub holds : BlockValue → ℕ → Bool
holds block page = nat_le (first_page block) page && nat_lt page (first_page block + page_count block)
