-- What is left of a walk after a step: its end, its reads and its slots.
use Rattle.std.specs.Prelude.{ℕ, ◌+◌, List, [], ◌∷◌, Result, Ok, Err}
use Rattle.cap_format.specs.declared.item.Item.TheVariants.{Slot}
use Rattle.object_store.specs.Store.{Items, slot_at}
use Rattle.walk_meaning.specs.declared.kind.Kind.{Kind}
use Rattle.walk_meaning.specs.declared.noted.Noted.{Noted}
use Rattle.walk_meaning.specs.declared.place.Place.{Place}
use Rattle.walk_meaning.specs.declared.place.WalkFault.{WalkFault}
use Rattle.walk_meaning.specs.declared.step.Step.{Step}
use Rattle.walk_meaning.specs.declared.step.Step.TheVariants.{Reach, Fault, Go}
use Rattle.walk_meaning.specs.Walk.{fault, walk}
use Rattle.walk_meaning.specs.Trail.{noted, trail_from, handler_cost, read_cost, slots_from}

-- what the walk comes to after a step, where n capabilities may still be met
abbrev pub walk_after : Items → Kind → ℕ → Step → Result Place WalkFault
walk_after o kind n (Reach place) = Ok place
walk_after o kind n (Fault code handler) = Err (fault o code handler)
walk_after o kind n (Go next g i) = walk o kind n (slot_at o g i) next

-- what the walk reads after a step, but for a handler
abbrev pub trail_after : Items → Kind → ℕ → ℕ → Step → List Noted
trail_after o kind address n (Reach place) = []
trail_after o kind address n (Fault code handler) = []
trail_after o kind address n (Go next g i) = noted (Slot g i) address next.l2 ∷ trail_from o kind address n (slot_at o g i) next

-- how many slots the walk reads after a step
abbrev pub slots_after : Items → Kind → ℕ → Step → ℕ
slots_after o kind n (Reach place) = 0
slots_after o kind n (Fault code handler) = handler_cost handler
slots_after o kind n (Go next g i) = read_cost n + slots_from o kind n (slot_at o g i) next
