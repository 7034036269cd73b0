-- How records are linked, item by item. No public clause cites this module.
use Rattle.std.specs.Prelude.{◌≡◌, ◌≢◌, ℕ, zero, suc, Bool, nat_lt, if◌then◌else◌, is_some, ◌+◌, ◌<◌, ◌≤◌, List, [], ◌∷◌, length, slice_index_or, sum_by, Option, Some, None}
use Rattle.slab.specs.Slab.{Slab, get, slab_len}
use Rattle.cap_format.specs.Item.{IsItem}
use Rattle.depend_table.specs.declared.chain.Chain.{Chain}
use Rattle.depend_table.specs.declared.chain.Node.{Node}
use Rattle.guard_math.specs.Block.{BlockValue}
use Rattle.depend_table.specs.Depend.{Depend, depend, is_within}
use Rattle.depend_table.specs.Place.{place_of}

-- the record that a node has
abbrev pub record_of : Node → Depend
record_of n = depend n.item n.root n.block

-- the node of a record, with those of its item that are there
abbrev pub node_of : Depend → Chain → Node
node_of d rest = record { item = d.item; root = d.root; block = d.block; rest = rest }

-- the records of the nodes that are there
abbrev pub records_of : List (Option Node) → List Depend
records_of [] = []
records_of (None ∷ slots) = records_of slots
records_of (Some n ∷ slots) = record_of n ∷ records_of slots

-- the chain of no record
abbrev pub no_chain : Chain
no_chain = record { first = None; length = 0 }

-- the chain at a place
abbrev pub chain_at : List Chain → ℕ → Chain
chain_at chains place = slice_index_or chains place no_chain

-- the chain that begins with the node of a key, in front of this one
abbrev pub linked_chain : ℕ → Chain → Chain
linked_chain key rest = record { first = Some key; length = rest.length + 1 }

-- so many records, from this key on, are those of the item at a place
abbrev pub Leads : (ℕ → Option Node) → ℕ → ℕ → Option ℕ → Type 0
Leads node place length None = length ≡ 0
Leads node place length (Some key) = (n : Node) × ((node key ≡ Some n) × ((place_of n.item ≡ place) × (length ≡ n.rest.length + 1)))

-- a chain counts the records to which its first key leads, and all are of the item at a place
abbrev pub IsChain : (ℕ → Option Node) → ℕ → Chain → Type 0
IsChain node place chain = Leads node place chain.length chain.first

-- the nodes, by their keys, and the chains, by places, are linked: every node is in its item's chain, at a height of
-- its own, and no record is there twice
pub record IsLinked (node : ℕ → Option Node) (chain : ℕ → Chain) : Type 0 where
  pub items : (k : ℕ) (n : Node) → node k ≡ Some n → IsItem n.item
  pub chains : (place : ℕ) → IsChain node place (chain place)
  pub rests : (k : ℕ) (n : Node) → node k ≡ Some n → IsChain node (place_of n.item) n.rest
  pub within : (k : ℕ) (n : Node) → node k ≡ Some n → n.rest.length < (chain (place_of n.item)).length
  pub apart : (j k : ℕ) (m n : Node) → node j ≡ Some m → node k ≡ Some n → place_of m.item ≡ place_of n.item → m.rest.length ≡ n.rest.length → j ≡ k
  pub once : (j k : ℕ) (m n : Node) → node j ≡ Some m → node k ≡ Some n → record_of m ≡ record_of n → j ≡ k

-- the table has room for all records, and the chains together have as many as there are
pub record IsTable (nodes : Slab Node) (chains : List Chain) : Type 0 where
  pub room : 16384 ≤ nodes.capacity
  pub most : slab_len nodes ≤ 16384
  pub places : length chains ≡ 23040
  pub total : sum_by (λ c. c.length) chains ≡ slab_len nodes
  pub linked : IsLinked (get nodes) (chain_at chains)

-- ---- while the chains are made anew, key by key

-- the nodes below a key
abbrev pub below : (ℕ → Option Node) → ℕ → ℕ → Option Node
below node end key = if nat_lt key end then node key else None

-- one for a test that holds
abbrev pub one_if : Bool → ℕ
one_if b = if b then 1 else 0

-- how many nodes there are below a key
abbrev pub count_below : (ℕ → Option Node) → ℕ → ℕ
count_below node zero = 0
count_below node (suc end) = count_below node end + one_if (is_some (node end))

-- the nodes below a key are linked, and no chain has any other
pub record IsLinkedTo (nodes : Slab Node) (chains : List Chain) (end : ℕ) : Type 0 where
  pub most : slab_len nodes ≤ 16384
  pub places : length chains ≡ 23040
  pub items : (k : ℕ) (n : Node) → get nodes k ≡ Some n → IsItem n.item
  pub once : (j k : ℕ) (m n : Node) → get nodes j ≡ Some m → get nodes k ≡ Some n → record_of m ≡ record_of n → j ≡ k
  pub total : sum_by (λ c. c.length) chains ≡ count_below (get nodes) end
  pub linked : IsLinked (below (get nodes) end) (chain_at chains)

-- the record of a node, where there is one
abbrev pub record_at : Option Node → Option Depend
record_at None = None
record_at (Some n) = Some (record_of n)

-- a record, unless it is of this root and its block lies in this one
abbrev pub unless_within : ℕ → BlockValue → Option Depend → Option Depend
unless_within root block None = None
unless_within root block (Some d) = if is_within root block d then None else Some d

-- the node of a key is gone where its record is of this root and within this block, and no other record changes
pub record DropsAt (old new : Slab Node) (key root : ℕ) (block : BlockValue) : Type 0 where
  pub here : record_at (get new key) ≡ unless_within root block (record_at (get old key))
  pub others : (k : ℕ) → k ≢ key → get new k ≡ get old k
  pub capacity : new.capacity ≡ old.capacity
