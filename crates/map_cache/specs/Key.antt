-- What takes a frame of the tables (this project's own).
use Rattle.std.specs.Prelude.{ℕ, Bool, List, [], ◌∷◌, ◌++◌, Option, Some, None}
use Rattle.cap_format.specs.Kind.{number_of}
use Rattle.cap_format.specs.Capability.{Capability, null}
use Rattle.depend_table.specs.Keyed.{has_by, same_by, with_by}
use Rattle.map_cache.specs.declared.key.Key.{Key}

-- a capability as numbers, its count among them
abbrev pub code_of : Capability → List ℕ
code_of c = number_of c.kind ∷ c.restr ∷ c.count ∷ c.guard.l2g ∷ c.guard.matches ∷ c.object ∷ c.payload ∷ c.slot ∷ []

-- whether two spaces are one: the same capability with the same count
abbrev pub same_space : Capability → Capability → Bool
same_space = same_by code_of

-- a key by its parts
abbrev pub key : Capability → Option ℕ → Key
key space region = record { space = space; region = region }

-- the key of a space's root
abbrev pub root_key : Capability → Key
root_key space = key space None

-- the key of a region of 1,024 pages
abbrev pub region_key : Capability → ℕ → Key
region_key space region = key space (Some region)

-- the key that stands in a place that is not used
abbrev pub no_key : Key
no_key = root_key null

-- a region as numbers; a root has none
abbrev pub region_code : Option ℕ → List ℕ
region_code None = 0 ∷ []
region_code (Some region) = 1 ∷ region ∷ []

-- a key as numbers
abbrev pub key_code : Key → List ℕ
key_code k = code_of k.space ++ region_code k.region

-- whether two keys are one
abbrev pub same_key : Key → Key → Bool
same_key = same_by key_code

-- whether a key is among some
abbrev pub has_key : List Key → Key → Bool
has_key = has_by key_code

-- the keys with one more, unless it is there
abbrev pub with_key : List Key → Key → List Key
with_key = with_by key_code
