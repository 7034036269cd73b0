-- The entries of a coherent cache, by the items and by what it keeps alone (this project's own).
use Rattle.std.specs.Prelude.{ℕ, zero, suc, ◌≡◌, ◌<◌, ◌*◌, ◌^◌, Bool, true, not, if◌then◌else◌, List, [], ◌∷◌, ◌++◌, slice_get, Option, Some, None, Result, Ok, Err}
use Rattle.cap_format.specs.Capability.{Capability}
use Rattle.object_store.specs.Store.{Items}
use Rattle.object_store.specs.Meaning.{is_live, meaning}
use Rattle.walk_meaning.specs.declared.kind.Kind.TheVariants.{Fetch, Load, Store}
use Rattle.walk_meaning.specs.declared.place.Place.{Place}
use Rattle.walk_meaning.specs.declared.place.WalkFault.{WalkFault}
use Rattle.walk_meaning.specs.Walk.{access, denied}
use Rattle.map_cache.specs.declared.key.Key.{Key}
use Rattle.map_cache.specs.declared.mapping.Mapping.{Mapping}
use Rattle.map_cache.specs.Kept.{KeptValue}

-- the entry of a page of a space, where a load there reaches this place: what its restrictions don't deny may be done
abbrev pub entry_to : Capability → ℕ → Place → Mapping
entry_to space page place = record {
  space = space;
  va = page * 4096;
  page = place.number;
  write = not (denied Store place.restr.0);
  execute = not (denied Fetch place.restr.0);
}

-- the entry of a page, by what a load there comes to
abbrev pub entries_to : Capability → ℕ → Result Place WalkFault → List Mapping
entries_to space page (Ok place) = entry_to space page place ∷ []
entries_to space page (Err fault) = []

-- the entry of a page where its pair is held
abbrev pub entries_of : Items → (Capability → ℕ → Bool) → Capability → ℕ → List Mapping
entries_of o held space page = if held space page then entries_to space page (access o (meaning o space) (page * 4096) Load) else []

-- the entries of so many pages of a space from one page on, in order
unfoldable pub held_from : Items → (Capability → ℕ → Bool) → Capability → ℕ → ℕ → List Mapping
held_from o held space page zero = []
held_from o held space page (suc n) = entries_of o held space page ++ held_from o held space (suc page) n

-- the entries under a key: all of a space's for that of its root, and none for that of a region
abbrev pub held_under : Items → (Capability → ℕ → Bool) → Capability → Option ℕ → List Mapping
held_under o held space None = held_from o held space 0 (2 ^ 20)
held_under o held space (Some region) = []

-- the entries under these keys
abbrev pub held_in : Items → (Capability → ℕ → Bool) → List Key → List Mapping
held_in o held [] = []
held_in o held (k ∷ keys) = held_under o held k.space k.region ++ held_in o held keys

-- the entries of what is kept: one for each held pair, space by space in the order in which their roots were taken, and by
-- address in each
abbrev pub held_entries : Items → KeptValue → List Mapping
held_entries o k = held_in o k.held k.keys

-- An entry is right where a load of its space at its address reaches its page now, and it may be written and executed exactly
-- where the restrictions met allow it. Its space is live.
pub record IsRight (o : Items) (m : Mapping) : Type 0 where
  pub place : Place
  pub reached : access o (meaning o m.space) m.va Load ≡ Ok place
  pub page : m.page ≡ place.number
  pub write : m.write ≡ not (denied Store place.restr.0)
  pub execute : m.execute ≡ not (denied Fetch place.restr.0)
  pub live : is_live o m.space ≡ true

-- entries are right, no two are of one address of a space, and those of a space are in order of address
pub record AreRight (o : Items) (entries : List Mapping) : Type 0 where
  pub right : (n : ℕ) (m : Mapping) → slice_get entries n ≡ Some m → IsRight o m
  pub once : (i j : ℕ) (m n : Mapping) → slice_get entries i ≡ Some m → slice_get entries j ≡ Some n → m.space ≡ n.space → m.va ≡ n.va → i ≡ j
  pub order : (i j : ℕ) (m n : Mapping) → i < j → slice_get entries i ≡ Some m → slice_get entries j ≡ Some n → m.space ≡ n.space → m.va < n.va
