-- What the records of a table note, where each root stands for a key (this project's own).
use Rattle.std.specs.Prelude.{ℕ, List, [], ◌∷◌, ◌++◌, map}
use Rattle.std.specs.Ordering.{nat_cmp, on}
use Rattle.std.specs.declared.cmp.Ordering.{Ordering}
use Rattle.std.specs.Cmp.Lexicographic.{slice_cmp}
use Rattle.std.specs.FinSet.{FinSet, from_list, insert}
use Rattle.cap_format.specs.Kind.{number_of}
use Rattle.cap_format.specs.declared.item.Item.{Item}
use Rattle.cap_format.specs.declared.item.Item.TheVariants.{Header, Slot}
use Rattle.guard_math.specs.Block.{BlockValue}
use Rattle.walk_meaning.specs.declared.noted.Noted.{Noted}
use Rattle.depend_table.specs.Depend.{Depend}

-- for a key an item was read, on the way to the pages of a block
pub record Note (K : Type 0) : Type 0 where
  pub key : K
  pub item : Item
  pub block : BlockValue

-- a note by its parts
abbrev pub note : {K : Type 0} → K → Item → BlockValue → Note K
note key item block = record { key = key; item = item; block = block }

-- an item as numbers
abbrev pub item_code : Item → List ℕ
item_code (Header kind number) = 0 ∷ number_of kind ∷ number ∷ []
item_code (Slot gpt slot) = 1 ∷ gpt ∷ slot ∷ []

-- a note as numbers, by those of its key
abbrev pub note_code : {K : Type 0} → (K → List ℕ) → Note K → List ℕ
note_code code n = n.block.base ∷ n.block.l2 ∷ (item_code n.item ++ code n.key)

-- an order of notes, by their numbers; notes that tie are one
abbrev pub order_by : {K : Type 0} → (K → List ℕ) → Note K → Note K → Ordering
order_by code = on (note_code code) (slice_cmp nat_cmp)

-- the notes with those of some reads for a key
abbrev pub noted_by : {K : Type 0} (code : K → List ℕ) → FinSet (order_by code) → K → List Noted → FinSet (order_by code)
noted_by code notes key [] = notes
noted_by code notes key (n ∷ rest) = noted_by code (insert notes (note key n.item n.block)) key rest

-- the note of a record, whose root stands for its key
abbrev pub note_by : {K : Type 0} → (ℕ → K) → Depend → Note K
note_by key_at d = note (key_at d.root) d.item d.block

-- the notes of all records
abbrev pub notes_by : {K : Type 0} (code : K → List ℕ) → (ℕ → K) → List Depend → FinSet (order_by code)
notes_by code key_at records = from_list (map (note_by key_at) records)
