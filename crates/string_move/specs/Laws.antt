-- The laws of strings, as statements.
use Rattle.std.specs.Prelude.{◌≡◌, ℕ, ◌+◌, ◌≤◌, List, length}
use Rattle.std.specs.List.{All}
use Rattle.object_store.specs.Store.{Store}
use Rattle.object_store.specs.Meaning.{state_map}
use Rattle.string_move.specs.declared.piece.Piece.{Piece}
use Rattle.string_move.specs.Spans.{spans, Cover, IsInOnePage}
use Rattle.string_move.specs.Move.{copied}

-- the spans of a string cover it exactly, in order; each lies in one page; and a string of at most 65,536 bytes has at
-- most 17
pub record SpansCover : Type 0 where
  pub exactly : (at len : ℕ) → Cover at (at + len) (spans at len)
  pub in_one_page : (at len : ℕ) → All IsInOnePage (spans at len)
  pub most : (at len : ℕ) → len ≤ 65536 → length (spans at len) ≤ 17

-- bytes have no meaning but themselves: a copy in the store is the same copy in the map
abbrev pub CopiesMean : Type 0
CopiesMean = (s : Store) (sources targets : List Piece) → state_map (copied s sources targets) ≡ copied (state_map s) sources targets
