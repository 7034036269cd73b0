-- The header of a GPT: how it cuts an address, and which of its slots have a use of their own.
use Rattle.std.specs.Prelude.{ℕ, ◌≤◌, Bool, false}

-- The logarithm of the size that one slot covers, whether slot 15 holds a fault handler, and whether slot 14
-- holds a background (Coyotos has the fields; their limits are this project's).
pub record HeaderValue : Type 0 where
  pub l2v : ℕ
  pub ha : Bool
  pub bg : Bool

-- a header by its three parts
abbrev pub header_of : ℕ → Bool → Bool → HeaderValue
header_of l2v ha bg = record { l2v = l2v; ha = ha; bg = bg }

-- a slot covers at least a page, and sixteen slots may cover more than all addresses (this project's limits)
pub record IsHeader (header : HeaderValue) : Type 0 where
  pub low : 12 ≤ header.l2v
  pub high : header.l2v ≤ 31

-- the header of an empty GPT: a page for each slot, and no flag (this project's)
abbrev pub empty_header : HeaderValue
empty_header = header_of 12 false false
