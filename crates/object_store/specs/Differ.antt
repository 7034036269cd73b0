-- One-item difference: which changes of the objects one announced item covers (this project's).
use Rattle.std.specs.Prelude.{◌≡◌, ℕ, true, ◌⊎◌}
use Rattle.cap_format.specs.declared.kind.CapKind.{CapKind}
use Rattle.cap_format.specs.declared.kind.CapKind.TheVariants.{Gpt}
use Rattle.cap_format.specs.declared.item.Item.{Item}
use Rattle.cap_format.specs.declared.item.Item.TheVariants.{Header, Slot}
use Rattle.cap_format.specs.Kind.{is_counted, object_kind}
use Rattle.cap_format.specs.Capability.{Capability, null}
use Rattle.object_store.specs.Store.{Items, size_of, count_of, header_at, slot_at}

-- the capability names object `n` of a kind
pub record Names (kind : CapKind) (n : ℕ) (c : Capability) : Type 0 where
  pub counted : is_counted c.kind ≡ true
  pub kind_is : object_kind c.kind ≡ kind
  pub object : c.object ≡ n

-- one of the two names the object, and the other is Null
abbrev pub Forgets : CapKind → ℕ → Capability → Capability → Type 0
Forgets kind n c d = (Names kind n c × (d ≡ null)) ⊎ (Names kind n d × (c ≡ null))

-- the maps have the same objects, and are equal but for one slot of one GPT
pub record DifferInSlot (g i : ℕ) (o p : Items) : Type 0 where
  pub sizes : (kind : CapKind) → size_of o kind ≡ size_of p kind
  pub counts : (kind : CapKind) (n : ℕ) → count_of o kind n ≡ count_of p kind n
  pub headers : (h : ℕ) → header_at o h ≡ header_at p h
  pub slots : (h j : ℕ) → ((h ≡ g) × (j ≡ i)) ⊎ (slot_at o h j ≡ slot_at p h j)

-- The maps have the same objects, and are equal but for the count, header and slots of one object. Besides, in any slot a capability that
-- names the object may stand in one of them where the other has Null.
pub record DifferInHeader (kind : CapKind) (n : ℕ) (o p : Items) : Type 0 where
  pub sizes : (k : CapKind) → size_of o k ≡ size_of p k
  pub counts : (k : CapKind) (m : ℕ) → ((k ≡ kind) × (m ≡ n)) ⊎ (count_of o k m ≡ count_of p k m)
  pub headers : (g : ℕ) → ((Gpt ≡ kind) × (g ≡ n)) ⊎ (header_at o g ≡ header_at p g)
  pub slots : (g i : ℕ) → ((Gpt ≡ kind) × (g ≡ n)) ⊎ ((slot_at o g i ≡ slot_at p g i) ⊎ Forgets kind n (slot_at o g i) (slot_at p g i))

-- the maps differ in this item alone, or in nothing
abbrev pub DifferIn : Item → Items → Items → Type 0
DifferIn (Header kind n) o p = DifferInHeader kind n o p
DifferIn (Slot g i) o p = DifferInSlot g i o p

-- the maps differ in no item
abbrev pub DifferInNone : Items → Items → Type 0
DifferInNone o p = o ≡ p
