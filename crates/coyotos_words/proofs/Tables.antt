-- A table of forms, entry by entry.
use Rattle.std.proofs.Common.{ℕ, zero, suc, ◌≡◌, ◌+◌, ◌<◌, List, [], ◌∷◌, map, take, length, refl, arith, slice_index_or}
use Rattle.clap.specs.Walk.{Text}
use Rattle.clap.specs.Simple.{App, new_shape, with_subcommand}
use Rattle.coyotos_words.specs.Forms.{with_bare}

one_more : {X : Type 0} (word : X → Text) (app : App) (table : List X) (i : ℕ) (other : X) → i < length table
    → with_subcommand (with_bare app (map word (take i table))) (new_shape (word (slice_index_or table i other))) ≡ with_bare app (map word (take (suc i) table))
one_more word app [] i other below = absurd (omega arith)
one_more word app (first ∷ table) zero other below = refl
one_more word app (first ∷ table) (suc i) other below = one_more word (with_subcommand app (new_shape (word first))) table i other (omega arith)

-- one form more
pub more_bare : {X : Type 0} (word : X → Text) (app : App) (table : List X) (i : ℕ) (other : X) → i < length table
    → with_subcommand (with_bare app (map word (take i table))) (new_shape (word (slice_index_or table i other))) ≡ with_bare app (map word (take (i + 1) table))
more_bare word app table i other below = let next : i + 1 ≡ suc i = omega arith in rw next (one_more word app table i other below)
