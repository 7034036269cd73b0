-- Coherence: each entry of a leaf table is what the walks behind its key reach now, each link leads where the walks of its region
-- join, and what they read was recorded (this project's own).
use Rattle.std.specs.Prelude.{ℕ, ◌≡◌, ◌<◌, true, not, ◌+◌, ◌*◌, ◌/◌, ◌^◌, List, ◌++◌, Some, Ok, ⊤}
use Rattle.std.specs.List.{AllByRecursion as Each}
use Rattle.cap_format.specs.Capability.{Capability}
use Rattle.guard_math.specs.Block.{holds}
use Rattle.object_store.specs.Store.{Items}
use Rattle.object_store.specs.Meaning.{meaning}
use Rattle.sv32_tables.specs.declared.leaf.Leaf.{Leaf as Entry}
use Rattle.sv32_tables.specs.Shared.{IsLeafTable, IsSharedRoot, entry_at, link_at}
use Rattle.walk_meaning.specs.declared.kind.Kind.TheVariants.{Fetch, Load, Store}
use Rattle.walk_meaning.specs.declared.noted.Noted.{Noted}
use Rattle.walk_meaning.specs.declared.place.Place.{Place}
use Rattle.walk_meaning.specs.Walk.{denied, past, start_at}
use Rattle.walk_meaning.specs.Trail.{header_noted}
use Rattle.producers.specs.declared.producer.Producer.{Producer}
use Rattle.producers.specs.Producer.{Point, background_number, cut, joined_trail, joined_walk}
use Rattle.producers.specs.Meets.{Meets, PassesAt}
use Rattle.depend_table.specs.Depend.{Depend, depend, has}
use Rattle.map_cache.specs.Coherent.{IsFresh}
use Rattle.shared_leaves.specs.declared.key.Key.{Key}
use Rattle.shared_leaves.specs.declared.key.Table.{Table}
use Rattle.shared_leaves.specs.declared.key.Table.TheVariants.{Region, Root, Producer as Joins}
use Rattle.shared_leaves.specs.Kept.{background_reads}
use Rattle.shared_leaves.specs.Cache.{SharedCache, key_at}

-- a read has its record under a frame, for a block that has the page
pub record IsRecorded (records : List Depend) (frame page : ℕ) (n : Noted) : Type 0 where
  pub there : has records (depend n.item frame n.block) ≡ true
  pub held : holds n.block page ≡ true

-- An entry of a producer's leaf table is fresh where the load from the producer on reaches the entry's page, and it may be
-- written exactly where RO was not met, and executed exactly where NX was not met. P holds of each read that it depends on.
pub record IsJoined (o : Items) (key : Producer) (place : ℕ) (entry : Entry) (P : Noted → Type 0) : Type 0 where
  pub ends : Place
  pub reached : joined_walk o key (place * 4096) Load ≡ Ok ends
  pub number : ends.number ≡ entry.page
  pub write : entry.write ≡ not (denied Store ends.restr.0)
  pub execute : entry.execute ≡ not (denied Fetch ends.restr.0)
  pub reads : Each P (background_reads key.background ++ joined_trail o key (place * 4096) Load)

-- an entry of a space's own leaf table is fresh as a leaf of the space is
abbrev pub IsEntryIn : Items → Capability → Table → ℕ → Entry → (Noted → Type 0) → Type 0
IsEntryIn o space Root place entry P = ⊥
IsEntryIn o space (Region region) place entry P = IsFresh o space (region * 1024 + place) entry (λ n. P (cut n))
IsEntryIn o space (Joins key) place entry P = IsJoined o key place entry P

-- an entry of a key's leaf table is fresh as those of that table are
abbrev pub IsEntry : Items → Key → ℕ → Entry → (Noted → Type 0) → Type 0
IsEntry o k place entry P = IsEntryIn o k.space k.table place entry P

-- a key is that of a point, whatever the ages
pub record Suits (key : Producer) (p : Point) : Type 0 where
  pub gpt : key.gpt ≡ p.cap.object
  pub top : key.top ≡ (past p.cap p.at).address / 2 ^ 22
  pub restr : key.restr ≡ (past p.cap p.at).restr
  pub background : background_number key.background ≡ p.at.background
  pub left : key.left ≡ p.left

-- A link to a producer's leaf table is right where the walk of the region comes to a GPT that joins others with this key. P
-- holds of each read up to the GPT's header.
pub record IsMet (o : Items) (space : Capability) (region : ℕ) (key : Producer) (P : Noted → Type 0) : Type 0 where
  pub point : Point
  pub reads : List Noted
  pub met : Meets o Load (region * 2 ^ 22) 32 (meaning o space) (start_at (region * 2 ^ 22)) point reads
  pub passes : PassesAt point
  pub suits : Suits key point
  pub recorded : Each P (reads ++ header_noted point.cap (region * 2 ^ 22) point.at.l2)

-- a link to a space's own leaf table is that space's, for that region
abbrev pub IsLinkTo : Items → Capability → ℕ → Capability → Table → (Noted → Type 0) → Type 0
IsLinkTo o space region s Root P = ⊥
IsLinkTo o space region s (Region r) P = (s ≡ space) × (r ≡ region)
IsLinkTo o space region s (Joins key) P = IsMet o space region key P

-- a link of a space's region to a key's leaf table is right as those to that table are
abbrev pub IsLink : Items → Capability → ℕ → Key → (Noted → Type 0) → Type 0
IsLink o space region k P = IsLinkTo o space region k.space k.table P

-- each entry is fresh, each link is right, and what they depend on is recorded
pub record IsCoherent (v : SharedCache) (o : Items) : Type 0 where
  pub entries : (frame place : ℕ) (entry : Entry) → IsLeafTable v.tables frame → place < 1024 → entry_at v.tables frame place ≡ Some entry
      → IsEntry o (key_at v.keys frame) place entry (IsRecorded v.records frame place)
  pub links : (root region frame : ℕ) → IsSharedRoot v.tables root → region < 1024 → link_at v.tables root region ≡ Some frame
      → IsLink o (key_at v.keys root).space region (key_at v.keys frame) (IsRecorded v.records root (region * 1024))

-- the leaf of a page of a space is what a load there reaches now, with the rights that the restrictions met leave
abbrev pub IsFreshLeaf : Items → Capability → ℕ → Entry → Type 0
IsFreshLeaf o space page leaf = IsFresh o space page leaf (λ n. ⊤)
