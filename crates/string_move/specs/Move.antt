-- Bytes that are moved from pieces of pages to pieces of pages: all are read before any is written. (This project's.)
use Rattle.std.specs.Prelude.{ℕ, ◌+◌, ◌<◌, ◌≤◌, List, [], ◌∷◌, ◌++◌, map, take, drop}
use Rattle.std.specs.List.{All, sum_by}
use Rattle.cap_format.specs.declared.kind.CapKind.TheVariants.{Page}
use Rattle.page_store.specs.Page.{bytes_at, with_bytes}
use Rattle.object_store.specs.Store.{Items, Store, size_of, page_at, with_page}
use Rattle.object_store.specs.Object.{ObjectName, object_name}
use Rattle.string_move.specs.declared.piece.Piece.{Piece}

-- a piece of a page that is there
pub record IsPiece (o : Items) (piece : Piece) : Type 0 where
  pub page : piece.page < size_of o Page
  pub inside : piece.at + piece.len ≤ 4096

-- pieces of pages that are there
abbrev pub ArePieces : Items → List Piece → Type 0
ArePieces o pieces = All (IsPiece o) pieces

-- how many bytes pieces have
abbrev pub size_of_pieces : List Piece → ℕ
size_of_pieces pieces = sum_by (λ (piece : Piece). piece.len) pieces

-- the bytes of a piece
abbrev pub piece_bytes : Store → Piece → List ℕ
piece_bytes s piece = bytes_at (page_at s piece.page) piece.at piece.len

-- the bytes of pieces, in their order
unfoldable pub gathered : Store → List Piece → List ℕ
gathered s [] = []
gathered s (piece ∷ pieces) = piece_bytes s piece ++ gathered s pieces

-- the store with these bytes in a piece
abbrev pub with_piece : Store → Piece → List ℕ → Store
with_piece s piece bytes = with_page s piece.page (with_bytes (page_at s piece.page) piece.at bytes)

-- the store with bytes written to pieces, in their order: each takes as many as it has
unfoldable pub scattered : Store → List Piece → List ℕ → Store
scattered s [] bytes = s
scattered s (piece ∷ pieces) bytes = scattered (with_piece s piece (take piece.len bytes)) pieces (drop piece.len bytes)

-- the first bytes of some pieces, as many as others have, written to those
unfoldable pub copied : Store → List Piece → List Piece → Store
copied s sources targets = scattered s targets (take (size_of_pieces targets) (gathered s sources))

-- the name of a piece's page
abbrev pub page_name : Piece → ObjectName
page_name piece = object_name Page piece.page

-- the names of the pages of pieces
abbrev pub page_names : List Piece → List ObjectName
page_names pieces = map page_name pieces
