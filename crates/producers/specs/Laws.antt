-- The laws of producers: what shared leaf tables stand on (this project's own).
use Rattle.std.specs.Prelude.{◌≡◌, ℕ, ◌/◌, ◌%◌, ◌^◌, ◌<◌, List, ◌++◌, map, Some, Ok}
use Rattle.std.specs.Result.{result_ok}
use Rattle.cap_format.specs.Capability.{Capability, IsCapability}
use Rattle.cap_format.specs.declared.item.Item.{Item}
use Rattle.object_store.specs.Store.{Items}
use Rattle.object_store.specs.Ranges.{IsRanged}
use Rattle.object_store.specs.Differ.{DifferIn}
use Rattle.walk_meaning.specs.declared.kind.Kind.{Kind}
use Rattle.walk_meaning.specs.declared.noted.Noted.{Noted}
use Rattle.walk_meaning.specs.declared.place.Place.{Place}
use Rattle.walk_meaning.specs.Bounds.{Below}
use Rattle.walk_meaning.specs.Walk.{access, start_at}
use Rattle.walk_meaning.specs.Trail.{header_noted, trail}
use Rattle.walk_meaning.specs.Laws.{Unread}
use Rattle.producers.specs.Producer.{Point, cut, join_of, joined_trail, joined_walk, key_of}
use Rattle.producers.specs.Meets.{Meets, PassesAt}

-- what an access that reaches and has a producer makes of its key and of the address's bits in the region
pub record Joined (o : Items) (c : Capability) (address : ℕ) (kind : Kind) (place : Place) (p : Point) : Type 0 where
  pub met : Meets o kind address 32 c (start_at address) p p.before
  pub passes : PassesAt p
  pub behind : List Noted
  pub reads : trail o c address kind ≡ p.before ++ behind
  pub reached : joined_walk o (key_of o p) (address % 2 ^ 22) kind ≡ Ok place
  pub cut_reads : map cut behind ≡ joined_trail o (key_of o p) (address % 2 ^ 22) kind

-- The join law. From its producer on, an access goes as its key says: it reaches the same place, and makes the same reads,
-- cut to the region.
abbrev pub JoinLaw : Type 0
JoinLaw = (o : Items) (c : Capability) (address : ℕ) (kind : Kind) (place : Place) (p : Point)
    → IsRanged o → IsCapability c → address < 2 ^ 32 → access o c address kind ≡ Ok place → join_of o c address kind ≡ Some p
    → Joined o c address kind place p

-- two accesses go alike from their producers on
pub record SameBehind (o : Items) (c d : Capability) (a b : ℕ) (kind : Kind) (p q : Point) (place other : Place) : Type 0 where
  pub places : place ≡ other
  pub first : List Noted
  pub second : List Noted
  pub first_is : trail o c a kind ≡ p.before ++ first
  pub second_is : trail o d b kind ≡ q.before ++ second
  pub reads : map cut first ≡ map cut second

-- Two accesses with one key, from whatever spaces, and with the same bits of the address in the region reach the same place,
-- and make the same reads from the producer's header on.
abbrev pub SameKeyLaw : Type 0
SameKeyLaw = (o : Items) (c d : Capability) (a b : ℕ) (kind : Kind) (p q : Point) (place other : Place)
    → IsRanged o → IsCapability c → IsCapability d → a < 2 ^ 32 → b < 2 ^ 32
    → access o c a kind ≡ Ok place → access o d b kind ≡ Ok other
    → join_of o c a kind ≡ Some p → join_of o d b kind ≡ Some q
    → key_of o p ≡ key_of o q → a % 2 ^ 22 ≡ b % 2 ^ 22
    → SameBehind o c d a b kind p q place other

-- a walk comes to the same point in another map, with the same key
pub record KeyStays (o p : Items) (c : Capability) (address : ℕ) (kind : Kind) (m : Point) (reads : List Noted) : Type 0 where
  pub met : Meets p kind address 32 c (start_at address) m reads
  pub key : key_of p m ≡ key_of o m

-- The key law. A walk that comes to a producer, and up to its header reads no item in which two maps may differ, comes to it
-- in both, with the same key: the key is a function of what was read before.
abbrev pub KeyLaw : Type 0
KeyLaw = (item : Item) (o p : Items) (c : Capability) (address : ℕ) (kind : Kind) (m : Point) (reads : List Noted)
    → DifferIn item o p → Meets o kind address 32 c (start_at address) m reads → PassesAt m
    → Unread item (reads ++ header_noted m.cap address m.at.l2)
    → KeyStays o p c address kind m reads

-- a point with another address
abbrev pub moved : Point → ℕ → Point
moved p address = record p { at = record p.at { address = address } }

-- An access comes to a point, but for what is left of the address there, by these reads; from there on it goes as the point's
-- key says. The header of the point's GPT is the first read from there on.
pub record ComesTo (o : Items) (c : Capability) (address : ℕ) (kind : Kind) (p : Point) (reads header : List Noted) : Type 0 where
  pub rest : ℕ
  pub met : Meets o kind address 32 c (start_at address) (moved p rest) reads
  pub passes : PassesAt (moved p rest)
  pub key : key_of o (moved p rest) ≡ key_of o p
  pub background : Below 1024 p.at.background
  pub header_is : header_noted p.cap address p.at.l2 ≡ header
  pub further : List Noted
  pub reads_are : trail o c address kind ≡ reads ++ (header ++ further)
  pub place : result_ok (access o c address kind) ≡ result_ok (joined_walk o (key_of o p) (address % 2 ^ 22) kind)
  pub cut_reads : map cut (header ++ further) ≡ joined_trail o (key_of o p) (address % 2 ^ 22) kind

-- The region law. Where a walk comes to a point at which it may join others, the walks to all addresses of the region come to
-- it, whatever their kind, by the same reads; and from there on they go as its key says.
abbrev pub RegionLaw : Type 0
RegionLaw = (o : Items) (c : Capability) (a b : ℕ) (j k : Kind) (p : Point) (reads : List Noted)
    → IsRanged o → IsCapability c → a / 2 ^ 22 ≡ b / 2 ^ 22 → Meets o j a 32 c (start_at a) p reads → PassesAt p
    → ComesTo o c b k p reads (header_noted p.cap a p.at.l2)
