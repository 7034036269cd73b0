-- Where each item stands among all items: the headers of the five kinds of objects first, then the slots of GPTs
-- (this project's own).
use Rattle.std.specs.Prelude.{ℕ, ◌+◌, ◌*◌}
use Rattle.cap_format.specs.declared.kind.CapKind.{CapKind}
use Rattle.cap_format.specs.declared.kind.CapKind.TheVariants.{CapPage, Gpt, Endpoint, Process}
use Rattle.cap_format.specs.declared.item.Item.{Item}
use Rattle.cap_format.specs.declared.item.Item.TheVariants.{Header, Slot}

-- the place of the first object's header; pages stand at the front
abbrev pub first_place : CapKind → ℕ
first_place CapPage = 4096
first_place Gpt = 4352
first_place Endpoint = 5376
first_place Process = 6400
first_place _ = 0

-- the place of an item
abbrev pub place_of : Item → ℕ
place_of (Header kind number) = first_place kind + number
place_of (Slot gpt slot) = 6656 + gpt * 16 + slot
