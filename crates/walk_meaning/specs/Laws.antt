-- The laws of walks on which everything about mapping caches rests (this project's own).
use Rattle.std.specs.Prelude.{◌≡◌, ◌≢◌, ℕ, ◌/◌, ◌%◌, ◌^◌, ◌<◌, ◌≤◌, true, false, if◌then◌else◌, List, ◌∷◌, ◌++◌, Option, Ok, Err}
use Rattle.std.specs.List.{AllByRecursion as Each}
use Rattle.cap_format.specs.Capability.{Capability, IsCapability}
use Rattle.cap_format.specs.Item.{IsItem}
use Rattle.cap_format.specs.declared.fault.FaultCode.TheVariants.{AccessViolation}
use Rattle.cap_format.specs.declared.item.Item.{Item}
use Rattle.cap_format.specs.declared.kind.CapKind.{CapKind}
use Rattle.cap_format.specs.declared.kind.CapKind.TheVariants.{Page, CapPage}
use Rattle.guard_math.specs.Block.{IsBlock, covers, holds}
use Rattle.object_store.specs.Store.{Items, size_of}
use Rattle.object_store.specs.Meaning.{meaning, map_of}
use Rattle.object_store.specs.Differ.{DifferIn}
use Rattle.object_store.specs.Ranges.{IsRanged}
use Rattle.walk_meaning.specs.declared.kind.Kind.{Kind}
use Rattle.walk_meaning.specs.declared.noted.Noted.{Noted}
use Rattle.walk_meaning.specs.declared.place.Place.{Place}
use Rattle.walk_meaning.specs.Walk.{is_data, denied, fault, access}
use Rattle.walk_meaning.specs.Trail.{trail, slots}

-- no read of a trail is of the item
abbrev pub Unread : Item → List Noted → Type 0
Unread item reads = Each (λ (n : Noted). n.item ≢ item) reads

-- an access through c in o and one through d in p reach the same place, by the same trail and as many slots
pub record ReachAlike (o p : Items) (c d : Capability) (address : ℕ) (kind : Kind) (place : Place) : Type 0 where
  pub reached : access p d address kind ≡ Ok place
  pub reads : trail p d address kind ≡ trail o c address kind
  pub cost : slots p d address kind ≡ slots o c address kind

-- The frame law. An access that reaches, and does not read the one item in which two maps may differ, is the
-- same in both.
abbrev pub FrameLaw : Type 0
FrameLaw = (item : Item) (o p : Items) (c : Capability) (address : ℕ) (kind : Kind) (place : Place)
    → DifferIn item o p → access o c address kind ≡ Ok place → Unread item (trail o c address kind)
    → ReachAlike o p c c address kind place

-- the same where the space itself may die with the item's object, or come to life
abbrev pub SpaceFrameLaw : Type 0
SpaceFrameLaw = (item : Item) (o p : Items) (space : Capability) (address : ℕ) (kind : Kind) (place : Place)
    → DifferIn item o p → access o (meaning o space) address kind ≡ Ok place
    → Unread item (trail o (meaning o space) address kind)
    → ReachAlike o p (meaning o space) (meaning p space) address kind place

-- what an access of address a that reaches says of address b
pub record WalkedAlike (o : Items) (c : Capability) (a b : ℕ) (kind : Kind) (place : Place) : Type 0 where
  pub offset : place.offset ≡ a % 4096
  pub reached : access o c b kind ≡ Ok (record place { offset = b % 4096 })
  pub reads : trail o c b kind ≡ trail o c a kind
  pub cost : slots o c b kind ≡ slots o c a kind

-- All addresses of a page are walked alike: where one reaches, the other reaches the same place but for the
-- offset, by the same trail.
abbrev pub PageLaw : Type 0
PageLaw = (o : Items) (c : Capability) (a b : ℕ) (kind : Kind) (place : Place)
    → IsRanged o → IsCapability c → a / 4096 ≡ b / 4096 → access o c a kind ≡ Ok place → WalkedAlike o c a b kind place

-- The block law. All addresses of the block that a read noted make the same reads up to that one.
abbrev pub BlockLaw : Type 0
BlockLaw = (o : Items) (c : Capability) (a b : ℕ) (j k : Kind) (before after : List Noted) (n : Noted)
    → IsRanged o → IsCapability c → trail o c a j ≡ before ++ n ∷ after → covers n.block b ≡ true
    → (rest : List Noted) × (trail o c b k ≡ before ++ n ∷ rest)

-- what an access of kind j that reaches says of kind k
pub record KindsAgree (o : Items) (c : Capability) (address : ℕ) (j k : Kind) (place : Place) : Type 0 where
  pub allowed : denied j place.restr.0 ≡ false
  pub same : denied k place.restr.0 ≡ false → access o c address k ≡ Ok place
  pub refused : denied k place.restr.0 ≡ true → (h : Option ℕ) × (access o c address k ≡ Err (fault o AccessViolation h))
  pub reads : trail o c address k ≡ trail o c address j

-- The data kinds agree but for what is denied at the place, and so do the capability kinds.
abbrev pub KindLaw : Type 0
KindLaw = (o : Items) (c : Capability) (address : ℕ) (j k : Kind) (place : Place)
    → is_data j ≡ is_data k → access o c address j ≡ Ok place → KindsAgree o c address j k place

-- a read of a walk to an address: of an item that there may be, in a block that has the address and its page
pub record IsRead (address : ℕ) (n : Noted) : Type 0 where
  pub item : IsItem n.item
  pub block : IsBlock n.block
  pub covered : covers n.block address ≡ true
  pub held : holds n.block (address / 4096) ≡ true

-- Each block of a trail has the page of the address.
abbrev pub ReadsLaw : Type 0
ReadsLaw = (o : Items) (c : Capability) (address : ℕ) (kind : Kind)
    → IsRanged o → IsCapability c → address < 2 ^ 32 → Each (IsRead address) (trail o c address kind)

-- An access reads at most 32 slots of GPTs: one for each capability that it meets after the first, and one for a
-- handler.
abbrev pub SlotsLaw : Type 0
SlotsLaw = (o : Items) (c : Capability) (address : ℕ) (kind : Kind) → slots o c address kind ≤ 32

-- the object's kind serves the access: a page the data kinds, a capability page the capability kinds
abbrev pub serving : Kind → CapKind
serving kind = if is_data kind then Page else CapPage

-- a place that a walk over the meanings of what is stored reaches
pub record IsReached (o : Items) (kind : Kind) (place : Place) : Type 0 where
  pub kind_is : place.kind ≡ serving kind
  pub there : place.number < size_of o place.kind
  pub within : place.offset < 4096

-- A load that reaches, reaches a page, and one that is there. So does each data kind, and the capability kinds
-- reach a capability page.
abbrev pub PlaceLaw : Type 0
PlaceLaw = (o : Items) (space : Capability) (address : ℕ) (kind : Kind) (place : Place)
    → access (map_of o) (meaning o space) address kind ≡ Ok place → IsReached o kind place
