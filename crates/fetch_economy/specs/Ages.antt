-- The ages of objects along touches: an object's count changes only where the change of its header is told (this project's own).
use Rattle.std.specs.Prelude.{◌≡◌, ◌⊎◌, ℕ, List, [], ◌∷◌}
use Rattle.cap_format.specs.declared.item.Item.{Item}
use Rattle.cap_format.specs.declared.item.Item.TheVariants.{Header}
use Rattle.cap_format.specs.declared.kind.CapKind.{CapKind}
use Rattle.object_store.specs.Store.{Items, count_of}
use Rattle.machine_state.specs.Outcome.{Touch}
use Rattle.machine_state.specs.Outcome.Touch.{DataAccess, CapAccess, GptCall, Changed}

-- all objects have the same ages
abbrev pub SameAges : Items → Items → Type 0
SameAges o p = (kind : CapKind) (n : ℕ) → count_of o kind n ≡ count_of p kind n

-- all objects have the same ages, but for the one whose header the item is
abbrev pub SameAgesBut : Item → Items → Items → Type 0
SameAgesBut item o p = (kind : CapKind) (n : ℕ) → (item ≡ Header kind n) ⊎ (count_of o kind n ≡ count_of p kind n)

-- from one moment to another along touches, each access of data is over items of the ages of its moment, and each age that
-- changes is told
abbrev pub AgesAreTold : Items → List Touch → Items → Type 0
AgesAreTold o [] p = SameAges o p
AgesAreTold o (DataAccess q space address kind ∷ touches) p = SameAges o q × AgesAreTold q touches p
AgesAreTold o (CapAccess q space address kind ∷ touches) p = AgesAreTold o touches p
AgesAreTold o (GptCall reads ∷ touches) p = AgesAreTold o touches p
AgesAreTold o (Changed item ∷ touches) p = (q : Items) × SameAgesBut item o q × AgesAreTold q touches p
