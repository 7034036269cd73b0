-- What moves with a message, and what is logged.
use Rattle.std.proofs.Common.{◌≡◌, ℕ, ◌+◌, ◌<◌, ◌≤◌, List, [], ◌∷◌, ◌++◌, length, get_or, take, drop, refl, sym, ap, ◌∙◌, subst, arith, append_assoc, append-nil}
use Rattle.std.proofs.lemmas.List.{at_drop_more, at_drop_all}
use Rattle.std.proofs.lemmas.List.Sums.{sum_by-drop_more}
use Rattle.object_store.specs.Store.{Store, Items}
use Rattle.object_store.specs.Ahead.{NoneAhead}
use Rattle.process_objects.specs.Process.{ProcessValue}
use Rattle.schedules.specs.Queues.{QueuesValue}
use Rattle.schedules.specs.Ready.{runs, Agrees}
use Rattle.string_move.specs.declared.piece.Piece.{Piece}
use Rattle.string_move.specs.Move.{size_of_pieces, piece_bytes, with_piece, gathered, scattered, copied}
use Rattle.machine_state.specs.Machine.{IsMachine}

scattered_processes : (s : Store) (pieces : List Piece) (bytes : List ℕ) → (scattered s pieces bytes).contents.processes ≡ s.contents.processes
unfolding scattered
scattered_processes s [] bytes = refl
scattered_processes s (piece ∷ pieces) bytes = scattered_processes (with_piece s piece (take piece.len bytes)) pieces (drop piece.len bytes)

-- bytes that move change no process
pub copied_processes : (s t : Store) (sources targets : List Piece) → t ≡ copied s sources targets → t.contents.processes ≡ s.contents.processes
unfolding copied
copied_processes s t sources targets after = ap (λ (z : Store). z.contents.processes) after ∙ scattered_processes s targets _

-- so a machine is still one
pub kept_moved : (s t : Store) (q : QueuesValue) (sources targets : List Piece) → t ≡ copied s sources targets → t.items ≡ s.items → t.harts ≡ s.harts → NoneAhead t → IsMachine s q → IsMachine t q
kept_moved s t q sources targets after items harts behind is = record {
  fits = record { processes = is.fits.processes ∙ ap (λ (o : Items). length o.counts.processes) (sym items); harts = is.fits.harts ∙ sym harts };
  agrees = subst (λ (processes : List ProcessValue). Agrees (runs processes q)) (sym (copied_processes s t sources targets after)) is.agrees;
  behind = behind;
}

-- ---- the bytes of the first pieces

pub record IsLogged (s : Store) (pieces : List Piece) (i : ℕ) (bytes : List ℕ) : Type 0 where
  pub whole : bytes ++ gathered s (drop i pieces) ≡ gathered s pieces
  pub size : length bytes + size_of_pieces (drop i pieces) ≡ size_of_pieces pieces

-- the next one
pub logged_more : (s : Store) (pieces : List Piece) (i : ℕ) (bytes new : List ℕ) (d : Piece) → i < length pieces → new ≡ bytes ++ piece_bytes s (get_or pieces i d) → length new ≡ length bytes + (get_or pieces i d).len → IsLogged s pieces i bytes → IsLogged s pieces (i + 1) new
unfolding gathered
logged_more s pieces i bytes new d there is long logged =
    let next = sum_by-drop_more (λ (piece : Piece). piece.len) pieces i d there in
    let size = logged.size in
    record {
      whole =
          ap (λ front. front ++ gathered s (drop (i + 1) pieces)) is
          ∙ (append_assoc bytes (piece_bytes s (get_or pieces i d)) (gathered s (drop (i + 1) pieces))
          ∙ (sym (at_drop_more (λ rest. bytes ++ gathered s rest) pieces i d there) ∙ logged.whole));
      size = omega (arith, next, size, long);
    }

-- all of them
pub logged_all : (s : Store) (pieces : List Piece) (i : ℕ) (bytes : List ℕ) → length pieces ≤ i → IsLogged s pieces i bytes → bytes ≡ gathered s pieces
unfolding gathered
logged_all s pieces i bytes past logged = sym (append-nil bytes) ∙ (sym (at_drop_all (λ rest. bytes ++ gathered s rest) pieces i past) ∙ logged.whole)
