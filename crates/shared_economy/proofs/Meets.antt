-- What is kept meets what is owed: each covered page is held, each read behind a key is made there now, and no more is kept than
-- the shared need counts.
use Rattle.std.proofs.Common.{◌≡◌, ℕ, ◌+◌, ◌*◌, ◌/◌, ◌%◌, ◌^◌, ◌<◌, ◌≤◌, Bool, true, false, ◌&&◌, nat_le, List, length, Option, Some, None, Ok, refl, sym, ap, ◌∙◌, arith}
use Rattle.std.specs.List.{AllByRecursion as Each}
use Rattle.std.specs.FinSet.{FinSet, contains, contains-empty, len}
use Rattle.std.proofs.lemmas.Bool.Decides.{nat_tests}
use Rattle.cap_format.specs.Capability.{Capability, IsCapability, bare}
use Rattle.cap_format.specs.declared.item.Item.{Item}
use Rattle.guard_math.specs.Block.{BlockValue, holds}
use Rattle.object_store.specs.Store.{Items}
use Rattle.walk_meaning.specs.declared.kind.Kind.TheVariants.{Load}
use Rattle.walk_meaning.specs.declared.noted.Noted.{Noted}
use Rattle.walk_meaning.specs.declared.place.Place.{Place}
use Rattle.walk_meaning.specs.Walk.{access}
use Rattle.walk_meaning.specs.Trail.{noted_in, trail}
use Rattle.walk_meaning.specs.Laws.{Unread}
use Rattle.map_cache.specs.Kept.{counted}
use Rattle.shared_leaves.specs.declared.key.Key.{Key}
use Rattle.shared_leaves.specs.declared.key.Table.{Table}
use Rattle.shared_leaves.specs.declared.key.Table.TheVariants.{Region, Root, Producer as Joins}
use Rattle.shared_leaves.specs.Key.{has_entries, has_key, is_leaf, root_key}
use Rattle.shared_leaves.specs.Kept.{Note, SharedKept, fits, note_order, nothing}
use Rattle.shared_leaves.proofs.Economy.{fits-within}
use Rattle.fetch_economy.specs.Economy.{EconomyValue, at_start}
use Rattle.shared_economy.specs.Need.{NeedValue, no_need}
use Rattle.shared_economy.proofs.Sets.{Rooted, rooted}
use Rattle.shared_economy.proofs.Places.{IsWide}
use Rattle.shared_economy.proofs.Trails.{Ends, IsFresh, LinkLeads, reads_behind}
use Rattle.depend_table.proofs.Notes.{notes_apart, notes_total}
use Rattle.depend_table.proofs.Sets.{within-len}
use Rattle.depend_table.proofs.Tests.{both}
use Rattle.depend_table.specs.Notes.{note}
use Rattle.shared_leaves.proofs.Codes.{key_coding}

-- a read is noted for a frame
abbrev pub IsNoted : FinSet note_order → Key → Noted → Type 0
IsNoted notes key m = contains notes (note key m.item m.block) ≡ true

-- and its block has the page
abbrev pub IsNotedOn : FinSet note_order → Key → ℕ → Noted → Type 0
IsNotedOn notes key page m = (contains notes (note key m.item m.block) ≡ true) × (holds m.block page ≡ true)

-- a covered page: its load reaches, what it reads is noted for its space, and its region is linked to a key that holds it, behind
-- which nothing is read but what the load reads
pub record IsCovered (k : SharedKept) (e : EconomyValue) (o : Items) (s : Capability) (p : ℕ) : Type 0 where
  pub uncounted : bare s ≡ s
  pub capability : IsCapability s
  pub inside : p < 2 ^ 20
  pub place : Place
  pub reached : access o s (p * 4096) Load ≡ Ok place
  pub noted : Each (λ m. (contains e.noted (note (counted o s) m.item m.block) ≡ true) × (holds m.block p ≡ true)) (trail o s (p * 4096) Load)
  pub key : Key
  pub link : k.links (counted o s) (p / 1024) ≡ Some key
  pub held : k.held key (p % 1024) ≡ true
  pub behind : (x : Item) → Unread x (trail o s (p * 4096) Load) → Unread x (reads_behind o key (p % 1024))

-- what is kept, what is owed and what is needed, over these items
pub record Meets (k : SharedKept) (e : EconomyValue) (n : NeedValue) (o : Items) : Type 0 where
  pub frames : k.keys ≡ n.frames
  pub roots : (s : Capability) (i : Item) (b : BlockValue) → contains k.notes (note (root_key s) i b) ≡ true
      → (contains e.noted (note s i b) ≡ true) × IsWide b
  pub leaves : (q : Note) → contains k.notes q ≡ true → is_leaf q.key ≡ true → contains n.records q ≡ true
  pub fresh : (q : Note) → contains k.notes q ≡ true → is_leaf q.key ≡ true → IsFresh o q.key (noted_in q.item q.block) (IsNoted k.notes q.key)
  pub links : (s : Capability) (r : ℕ) (key : Key) → k.links s r ≡ Some key
      → (has_key k.keys (root_key s) ≡ true) × (has_key k.keys key ≡ true) × LinkLeads o s r key (IsNotedOn k.notes (root_key s) (r * 1024))
  pub held : (key : Key) (j : ℕ) → k.held key j ≡ true → Ends o key j × Each (IsNotedOn k.notes key j) (reads_behind o key j)
  pub covered : (s : Capability) (p : ℕ) → e.covered s p ≡ true → IsCovered k e o s p

pub none_some : {X : Type 0} {A : Type 0} (x : A) → ◌≡◌ {A = Option A} None (Some x) → X
none_some x e = absurd (cc)

-- so it is at the start
pub meets-start : (o : Items) → Meets nothing at_start no_need o
meets-start o = record {
  frames = refl;
  roots = λ s i b there. absurd (no_note (note (root_key s) i b) there);
  leaves = λ q there leaf. there;
  fresh = λ q there leaf. absurd (no_note q there);
  links = λ s r key e. none_some key e;
  held = λ key j held. absurd (cc);
  covered = λ s p covered. absurd (cc);
}
  where
    no_note : (q : Note) → contains nothing.notes q ≡ true → ⊥
    no_note q there = let none : contains nothing.notes q ≡ false = contains-empty note_order q in cc

-- ---- the need

-- whether the need so far fits
abbrev pub within_need : EconomyValue → NeedValue → Bool
within_need e n = nat_le (length n.frames) 256 && nat_le (2 * len e.noted + len n.records) 16384

-- no more notes are kept than those of spaces and of leaf tables together
notes_few : (k : SharedKept) (e : EconomyValue) (n : NeedValue) (o : Items) → Meets k e n o → len k.notes ≤ len e.noted + len n.records
notes_few k e n o m =
    let all = rooted e.noted n.records in
    let few = within-len (notes_total key_coding) (notes_apart key_coding) k.notes all.all (λ y there. on all y y.key.table refl there) in
    let total = all.count in
    omega (arith, few, total)
  where
    on : (all : Rooted e.noted n.records) (y : Note) (t : Table) → y.key.table ≡ t → contains k.notes y ≡ true → contains all.all y ≡ true
    on all y Root is there =
        let key : y.key ≡ root_key y.key.space = λ z. record { space = y.key.space; table = is z } in
        let root = m.roots y.key.space y.item y.block ((λ z. contains k.notes (note (sym key z) y.item y.block)) ∙ there) in
        (λ z. contains all.all (note (key z) y.item y.block)) ∙ all.roots_there (note y.key.space y.item y.block) root.0
    on all y (Region r) is there = all.leaves_there y (m.leaves y there (ap has_entries is))
    on all y (Joins key) is there = all.leaves_there y (m.leaves y there (ap has_entries is))

-- what meets a need that fits, fits
pub meets-fits : (k : SharedKept) (e : EconomyValue) (n : NeedValue) (o : Items) → Meets k e n o → within_need e n ≡ true → fits k ≡ true
meets-fits k e n o m need =
    let parts = both (nat_le (length n.frames) 256) (nat_le (2 * len e.noted + len n.records) 16384) need in
    let few = notes_few k e n o m in
    fits-within k
    (omega (arith, at_most (length n.frames) 256 parts.0, ap (λ (keys : List Key). length keys) m.frames))
    (omega (arith, at_most (2 * len e.noted + len n.records) 16384 parts.1, few))
  where
    at_most : (a most : ℕ) → nat_le a most ≡ true → a ≤ most
    at_most a most holds = grind (arith, nat_tests, holds)
