-- What the accesses of data among touches are (this project's own).
use Rattle.std.specs.Prelude.{◌≡◌, ◌<◌, ◌^◌, ℕ, true, ⊤, List, [], ◌∷◌}
use Rattle.cap_format.specs.Capability.{Capability, IsCapability, bare}
use Rattle.object_store.specs.Store.{Items}
use Rattle.object_store.specs.Ranges.{IsRanged}
use Rattle.walk_meaning.specs.declared.kind.Kind.{Kind}
use Rattle.walk_meaning.specs.Walk.{is_data}
use Rattle.machine_state.specs.Outcome.{Touch}
use Rattle.machine_state.specs.Outcome.Touch.{DataAccess, CapAccess, GptCall, Changed}

-- an access of data over items in their ranges, through a capability in its ranges that has no count
pub record IsAccess (o : Items) (space : Capability) (address : ℕ) (kind : Kind) : Type 0 where
  pub ranged : IsRanged o
  pub capability : IsCapability space
  pub uncounted : bare space ≡ space
  pub address_fits : address < 2 ^ 32
  pub data_kind : is_data kind ≡ true

-- each access of data among touches is such
abbrev pub AreAccesses : List Touch → Type 0
AreAccesses [] = ⊤
AreAccesses (DataAccess o space address kind ∷ touches) =
    IsAccess o space address kind × AreAccesses touches
AreAccesses (CapAccess o space address kind ∷ touches) = AreAccesses touches
AreAccesses (GptCall reads ∷ touches) = AreAccesses touches
AreAccesses (Changed item ∷ touches) = AreAccesses touches
