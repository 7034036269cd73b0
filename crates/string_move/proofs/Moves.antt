-- Bytes that are moved: what the moves mean, and what they leave as it was.
use Rattle.std.proofs.Common.{◌≡◌, ℕ, ◌+◌, ◌<◌, ◌≤◌, List, [], ◌∷◌, ◌++◌, length, get_or, take, drop, refl, sym, ap, ◌∙◌}
use Rattle.std.proofs.lemmas.List.{at_drop_more, at_drop_all, drop-drop}
use Rattle.object_store.specs.Store.{Store}
use Rattle.object_store.specs.Meaning.{state_map}
use Rattle.object_store.specs.Ahead.{NoneAhead}
use Rattle.object_store.specs.Object.{Stays}
use Rattle.object_store.proofs.WritesBehind.{put_page_behind}
use Rattle.object_store.proofs.Stays.{stays_same, stays_page, stays_more, stays_then}
use Rattle.string_move.specs.declared.piece.Piece.{Piece}
use Rattle.string_move.specs.Move.{size_of_pieces, piece_bytes, with_piece, gathered, scattered, copied, page_name, page_names}

-- ---- writing

-- the next piece
pub scattered_more : (s : Store) (pieces : List Piece) (bytes : List ℕ) (i at : ℕ) (d : Piece) → i < length pieces
    → scattered (with_piece s (get_or pieces i d) (take (get_or pieces i d).len (drop at bytes))) (drop (i + 1) pieces) (drop (at + (get_or pieces i d).len) bytes) ≡ scattered s (drop i pieces) (drop at bytes)
unfolding scattered
scattered_more s pieces bytes i at d there =
    let piece = get_or pieces i d in
    ap (scattered (with_piece s piece (take piece.len (drop at bytes))) (drop (i + 1) pieces)) (sym (drop-drop piece.len at bytes))
    ∙ sym (at_drop_more (λ rest. scattered s rest (drop at bytes)) pieces i d there)

-- no piece left
pub scattered_all : (s : Store) (pieces : List Piece) (bytes : List ℕ) (i : ℕ) → length pieces ≤ i → scattered s (drop i pieces) bytes ≡ s
unfolding scattered
scattered_all s pieces bytes i past = at_drop_all (λ rest. scattered s rest bytes) pieces i past

scattered-items : (s : Store) (pieces : List Piece) (bytes : List ℕ) → ((scattered s pieces bytes).items ≡ s.items) × ((scattered s pieces bytes).harts ≡ s.harts)
unfolding scattered
scattered-items s [] bytes = (refl, refl)
scattered-items s (piece ∷ pieces) bytes = scattered-items (with_piece s piece (take piece.len bytes)) pieces (drop piece.len bytes)

scattered_means : (s : Store) (pieces : List Piece) (bytes : List ℕ) → state_map (scattered s pieces bytes) ≡ scattered (state_map s) pieces bytes
unfolding scattered
scattered_means s [] bytes = refl
scattered_means s (piece ∷ pieces) bytes = scattered_means (with_piece s piece (take piece.len bytes)) pieces (drop piece.len bytes)

scattered_behind : (s : Store) (pieces : List Piece) (bytes : List ℕ) → NoneAhead s → NoneAhead (scattered s pieces bytes)
unfolding scattered
scattered_behind s [] bytes none = none
scattered_behind s (piece ∷ pieces) bytes none = scattered_behind (with_piece s piece (take piece.len bytes)) pieces (drop piece.len bytes) (put_page_behind s none piece.page _)

scattered_stays : (s : Store) (pieces : List Piece) (bytes : List ℕ) → Stays (page_names pieces) s (scattered s pieces bytes)
unfolding scattered
scattered_stays s [] bytes = stays_same [] s
scattered_stays s (piece ∷ pieces) bytes =
    let next = with_piece s piece (take piece.len bytes) in
    stays_then (page_names (piece ∷ pieces)) s next (scattered next pieces (drop piece.len bytes))
    (stays_page (page_names pieces) s piece.page _)
    (stays_more (page_name piece) (page_names pieces) next _ (scattered_stays next pieces (drop piece.len bytes)))

-- ---- reading

gathered_means : (s : Store) (pieces : List Piece) → gathered (state_map s) pieces ≡ gathered s pieces
unfolding gathered
gathered_means s [] = refl
gathered_means s (piece ∷ pieces) = ap (λ rest. piece_bytes s piece ++ rest) (gathered_means s pieces)

-- ---- both

pub copied-items : (s : Store) (sources targets : List Piece) → ((copied s sources targets).items ≡ s.items) × ((copied s sources targets).harts ≡ s.harts)
unfolding copied
copied-items s sources targets = scattered-items s targets _

pub copied_means : (s : Store) (sources targets : List Piece) → state_map (copied s sources targets) ≡ copied (state_map s) sources targets
unfolding copied
copied_means s sources targets =
    scattered_means s targets (take (size_of_pieces targets) (gathered s sources))
    ∙ ap (λ bytes. scattered (state_map s) targets (take (size_of_pieces targets) bytes)) (sym (gathered_means s sources))

pub copied_behind : (s : Store) (sources targets : List Piece) → NoneAhead s → NoneAhead (copied s sources targets)
unfolding copied
copied_behind s sources targets none = scattered_behind s targets _ none

pub copied_stays : (s : Store) (sources targets : List Piece) → Stays (page_names targets) s (copied s sources targets)
unfolding copied
copied_stays s sources targets = scattered_stays s targets _
