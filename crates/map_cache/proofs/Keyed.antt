-- Keys by their places: the root of a space, the space of a root, and a key more.
use Rattle.std.proofs.Common.{◌≡◌, ◌≢◌, ℕ, ◌<◌, true, false, List, [], ◌∷◌, ◌++◌, length, Some, None, ap}
use Rattle.std.specs.Prelude.{slice_get}
use Rattle.std.proofs.Math.ListN.{get_or-append}
use Rattle.std.proofs.lemmas.Option.{get_or_from_slice_get}
use Rattle.cap_format.specs.Capability.{Capability}
use Rattle.sv32_tables.specs.declared.frame_use.FrameUse.{FrameUse}
use Rattle.sv32_tables.specs.declared.frame_use.FrameUse.TheVariants.{Root, Region}
use Rattle.sv32_tables.proofs.Uses.{slice_get-more}
use Rattle.depend_table.specs.Depend.{Depend, has}
use Rattle.depend_table.specs.Keyed.{AreApart}
use Rattle.depend_table.proofs.Coded.{frame_of-is, frame_of-new, frame_of-other, frame_of-some, none-frame_of}
use Rattle.depend_table.proofs.Notes.{notes_of-same}
use Rattle.map_cache.specs.declared.key.Key.{Key}
use Rattle.map_cache.specs.Key.{has_key, no_key, region_key, root_key}
use Rattle.map_cache.specs.Cache.{HasKey, notes_of, root_at, space_at}
use Rattle.map_cache.proofs.Codes.{key_coding, space_coding}

pub space_at-more : (keys : List Key) (k : Key) (r : ℕ) → r < length keys → space_at (keys ++ k ∷ []) r ≡ space_at keys r
space_at-more keys k r within = ap (λ (x : Key). x.space) (get_or-append keys (k ∷ []) no_key r within)

pub space_at-at : (keys : List Key) (f : ℕ) (k : Key) → slice_get keys f ≡ Some k → space_at keys f ≡ k.space
space_at-at keys f k at = ap (λ (x : Key). x.space) (get_or_from_slice_get keys f k no_key at)

-- a key more changes no note of a root that was there
pub notes_of-more : (keys : List Key) (k : Key) (ds : List Depend) → ((d : Depend) → has ds d ≡ true → d.root < length keys) → notes_of (keys ++ k ∷ []) ds ≡ notes_of keys ds
notes_of-more keys k ds within = notes_of-same space_coding (space_at keys) (space_at (keys ++ k ∷ [])) ds (λ d there. space_at-more keys k d.root (within d there))

-- a space's root is where its key stands
pub root_at-is : (keys : List Key) (space : Capability) (f : ℕ) → AreApart keys → slice_get keys f ≡ Some (root_key space) → root_at keys space ≡ Some f
root_at-is keys space = frame_of-is key_coding keys (root_key space)

-- and there its key stands
pub root_at-some : (keys : List Key) (space : Capability) (f : ℕ) → root_at keys space ≡ Some f → slice_get keys f ≡ Some (root_key space)
root_at-some keys space = frame_of-some key_coding keys (root_key space)

-- a space whose root is not there has no key
pub none-root_at : (keys : List Key) (space : Capability) → AreApart keys → root_at keys space ≡ None → has_key keys (root_key space) ≡ false
none-root_at keys space = none-frame_of key_coding keys (root_key space)

-- a key that is not its root's changes no space's root
pub root_at-other : (keys : List Key) (k : Key) (space : Capability) → AreApart (keys ++ k ∷ []) → k ≢ root_key space → root_at (keys ++ k ∷ []) space ≡ root_at keys space
root_at-other keys k space = frame_of-other key_coding keys k (root_key space)

-- a space whose key is new has its root there
pub root_at-new : (keys : List Key) (space : Capability) → AreApart (keys ++ root_key space ∷ []) → root_at (keys ++ root_key space ∷ []) space ≡ Some (length keys)
root_at-new keys space = frame_of-new key_coding keys (root_key space)

-- a frame's key stays with a key more
pub HasKey-more : (keys : List Key) (k : Key) (f : ℕ) (u : FrameUse) → HasKey keys f u → HasKey (keys ++ k ∷ []) f u
HasKey-more keys k f Root has = (has.0, slice_get-more keys k f (root_key has.0) has.1)
HasKey-more keys k f (Region root region) has =
    (has.0, slice_get-more keys k f (region_key has.0 region) has.1, slice_get-more keys k root (root_key has.0) has.2)
