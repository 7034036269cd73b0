-- Keys by their places: the key of a frame, and a key more.
use Rattle.std.proofs.Common.{◌≡◌, ◌<◌, true, List, [], ◌∷◌, ◌++◌, length, ℕ, Some}
use Rattle.std.specs.Prelude.{slice_get}
use Rattle.std.proofs.Math.ListN.{get_or-append}
use Rattle.std.proofs.lemmas.Option.{get_or_from_slice_get}
use Rattle.sv32_tables.specs.declared.shared_use.SharedUse.{SharedUse}
use Rattle.sv32_tables.specs.declared.shared_use.SharedUse.TheVariants.{Root as RootUse, Leaf as LeafUse}
use Rattle.sv32_tables.proofs.Uses.{slice_get-more}
use Rattle.depend_table.specs.Depend.{Depend, has}
use Rattle.depend_table.proofs.Notes.{notes_of-same}
use Rattle.shared_leaves.specs.declared.key.Key.{Key}
use Rattle.shared_leaves.specs.Key.{no_key, root_key}
use Rattle.shared_leaves.specs.Cache.{HasUse, key_at, notes_of}
use Rattle.shared_leaves.proofs.Codes.{key_coding}

pub key_at-more : (keys : List Key) (k : Key) (r : ℕ) → r < length keys → key_at (keys ++ k ∷ []) r ≡ key_at keys r
key_at-more keys k r within = get_or-append keys (k ∷ []) no_key r within

pub key_at-at : (keys : List Key) (f : ℕ) (k : Key) → slice_get keys f ≡ Some k → key_at keys f ≡ k
key_at-at keys f k at = get_or_from_slice_get keys f k no_key at

-- a key more changes no note of a root that was there
pub notes_of-more : (keys : List Key) (k : Key) (ds : List Depend) → ((d : Depend) → has ds d ≡ true → d.root < length keys) → notes_of (keys ++ k ∷ []) ds ≡ notes_of keys ds
notes_of-more keys k ds within = notes_of-same key_coding (key_at keys) (key_at (keys ++ k ∷ [])) ds (λ d there. key_at-more keys k d.root (within d there))

-- a frame's use stays with a key more
pub HasUse-more : (keys : List Key) (k : Key) (f : ℕ) (u : SharedUse) → HasUse keys f u → HasUse (keys ++ k ∷ []) f u
HasUse-more keys k f RootUse has = (has.0, slice_get-more keys k f (root_key has.0) has.1)
HasUse-more keys k f LeafUse has = (has.0, slice_get-more keys k f has.0 has.1, has.2)
