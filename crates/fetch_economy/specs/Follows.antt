-- Items along touches: what is accessed is what there is, and what changes is told (this project's own).
use Rattle.std.specs.Prelude.{◌≡◌, List, [], ◌∷◌}
use Rattle.object_store.specs.Store.{Items}
use Rattle.object_store.specs.Differ.{DifferIn}
use Rattle.machine_state.specs.Outcome.{Touch}
use Rattle.machine_state.specs.Outcome.Touch.{DataAccess, CapAccess, GptCall, Changed}

-- From one moment to another along touches: each access, of data or of a capability, is over the items of its moment, and
-- items change only where a change of an item is told, and then in that item alone.
abbrev pub Follows : Items → List Touch → Items → Type 0
Follows o [] p = o ≡ p
Follows o (DataAccess q space address kind ∷ touches) p = (q ≡ o) × Follows o touches p
Follows o (CapAccess q space address kind ∷ touches) p = (q ≡ o) × Follows o touches p
Follows o (GptCall reads ∷ touches) p = Follows o touches p
Follows o (Changed item ∷ touches) p = (q : Items) × DifferIn item o q × Follows q touches p
