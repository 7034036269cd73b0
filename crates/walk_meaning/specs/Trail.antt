-- What a walk reads: its trail, by which a cache knows when to forget it, and the number of slots.
-- Both are this project's own.
use Rattle.std.specs.Prelude.{ℕ, zero, suc, ◌+◌, if◌then◌else◌, Option, Some, None, List, [], ◌∷◌, ◌++◌}
use Rattle.cap_format.specs.Capability.{Capability}
use Rattle.cap_format.specs.declared.item.Item.{Item}
use Rattle.cap_format.specs.declared.item.Item.TheVariants.{Header, Slot}
use Rattle.cap_format.specs.Kind.{is_counted, object_kind}
use Rattle.guard_math.specs.Block.{BlockValue, around}
use Rattle.object_store.specs.Store.{Items, slot_at}
use Rattle.walk_meaning.specs.declared.at.At.{At}
use Rattle.walk_meaning.specs.declared.kind.Kind.{Kind}
use Rattle.walk_meaning.specs.declared.noted.Noted.{Noted}
use Rattle.walk_meaning.specs.declared.step.Step.TheVariants.{Reach, Fault, Go}
use Rattle.walk_meaning.specs.Walk.{step, start_at}

-- one read of a walk
abbrev pub noted_in : Item → BlockValue → Noted
noted_in item block = record { item = item; block = block }

-- an item that was read where the least size passed so far is 2^l2, on the way to an address
abbrev pub noted : Item → ℕ → ℕ → Noted
noted item address l2 = noted_in item (around address l2)

-- meeting a capability reads the header of the object that it names, before the guard is passed
abbrev pub header_noted : Capability → ℕ → ℕ → List Noted
header_noted c address l2 = if is_counted c.kind then noted (Header (object_kind c.kind) c.object) address l2 ∷ [] else []

-- the items that the walk reads from here on, in order, where n capabilities may still be met;
-- a GPT's l2v is passed before its slot is read
unfoldable pub trail_from : Items → Kind → ℕ → ℕ → Capability → At → List Noted
trail_from o kind address zero c w = []
trail_from o kind address (suc n) c w = header_noted c address w.l2 ++ elim (step o kind c w) [
  | Reach place ↦ []
  | Fault code handler ↦ []
  | Go next g i ↦ noted (Slot g i) address next.l2 ∷ trail_from o kind address n (slot_at o g i) next
]

-- the trail of an access; it counts where the access reaches
abbrev pub trail : Items → Capability → ℕ → Kind → List Noted
trail o space address kind = trail_from o kind address 32 space (start_at address)

-- a fault reads slot 15 of the handler GPT, if there is one
abbrev pub handler_cost : Option ℕ → ℕ
handler_cost None = 0
handler_cost (Some g) = 1

-- the slot that a walk goes on with is read where a capability may still be met
abbrev pub read_cost : ℕ → ℕ
read_cost zero = 0
read_cost (suc n) = 1

-- the GPT slots that the walk reads from here on, where n capabilities may still be met
unfoldable pub slots_from : Items → Kind → ℕ → Capability → At → ℕ
slots_from o kind zero c w = handler_cost w.handler
slots_from o kind (suc n) c w = elim (step o kind c w) [
  | Reach place ↦ 0
  | Fault code handler ↦ handler_cost handler
  | Go next g i ↦ read_cost n + slots_from o kind n (slot_at o g i) next
]

-- the GPT slots that an access reads
abbrev pub slots : Items → Capability → ℕ → Kind → ℕ
slots o space address kind = slots_from o kind 32 space (start_at address)
