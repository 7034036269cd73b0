-- Items: what a walk reads of the objects (this project's own).
use Rattle.std.specs.Prelude.{◌<◌, ◌≡◌, true}
use Rattle.cap_format.specs.declared.kind.CapKind.TheVariants.{Gpt}
use Rattle.cap_format.specs.declared.item.Item.{Item}
use Rattle.cap_format.specs.declared.item.Item.TheVariants.{Header, Slot}
use Rattle.cap_format.specs.Kind.{is_object, object_limit}

-- an item is the header of an object of one of the five kinds, or one of the 16 slots of a GPT
abbrev pub IsItem : Item → Type 0
IsItem (Header kind number) = (is_object kind ≡ true) × (number < object_limit kind)
IsItem (Slot gpt slot) = (gpt < object_limit Gpt) × (slot < 16)

-- the item that stands where none was noted
abbrev pub first_item : Item
first_item = Slot 0 0
