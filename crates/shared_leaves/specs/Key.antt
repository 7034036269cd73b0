-- What takes a frame of the tables (this project's own).
use Rattle.std.specs.Prelude.{ℕ, Bool, true, false, List, [], ◌∷◌, ◌++◌, Option, Some, None}
use Rattle.cap_format.specs.Capability.{Capability, null}
use Rattle.depend_table.specs.Keyed.{has_by, same_by, with_by}
use Rattle.map_cache.specs.Key.{code_of}
use Rattle.producers.specs.declared.producer.Background.{Background}
use Rattle.producers.specs.declared.producer.Producer.{Producer as ProducerValue}
use Rattle.shared_leaves.specs.declared.key.Key.{Key}
use Rattle.shared_leaves.specs.declared.key.Table.{Table}
use Rattle.shared_leaves.specs.declared.key.Table.TheVariants.{Producer, Region, Root}

-- a key by its parts
abbrev pub key : Capability → Table → Key
key space table = record { space = space; table = table }

-- the key of a space's root
abbrev pub root_key : Capability → Key
root_key space = key space Root

-- the key of a region of a space that shares nothing
abbrev pub own_key : Capability → ℕ → Key
own_key space region = key space (Region region)

-- the key of a producer's leaf table
abbrev pub producer_key : ProducerValue → Key
producer_key p = key null (Producer p)

-- the key that stands in a place that is not used
abbrev pub no_key : Key
no_key = root_key null

-- whether a frame has entries
abbrev pub has_entries : Table → Bool
has_entries Root = false
has_entries (Region region) = true
has_entries (Producer p) = true

-- whether a key is a leaf table's
abbrev pub is_leaf : Key → Bool
is_leaf k = has_entries k.table

-- a background as numbers
abbrev pub background_code : Option Background → List ℕ
background_code None = 0 ∷ 0 ∷ 0 ∷ []
background_code (Some b) = 1 ∷ b.gpt ∷ b.age ∷ []

-- what a frame is for as numbers
abbrev pub table_code : Table → List ℕ
table_code Root = 0 ∷ []
table_code (Region region) = 1 ∷ region ∷ []
table_code (Producer p) = 2 ∷ p.gpt ∷ p.age ∷ p.top ∷ p.restr.0 ∷ p.left ∷ background_code p.background

-- a key as numbers
abbrev pub key_code : Key → List ℕ
key_code k = code_of k.space ++ table_code k.table

-- whether two keys are one
abbrev pub same_key : Key → Key → Bool
same_key = same_by key_code

-- whether a key is among some
abbrev pub has_key : List Key → Key → Bool
has_key = has_by key_code

-- the keys with one more, unless it is there
abbrev pub with_key : List Key → Key → List Key
with_key = with_by key_code
