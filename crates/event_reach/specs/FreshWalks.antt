-- How many slots of GPTs are read where each access is a fresh walk, whatever a translator keeps. (This project's.)
use Rattle.std.specs.Prelude.{ℕ, ◌≤◌, if◌then◌else◌, List}
use Rattle.std.specs.List.{sum_by}
use Rattle.cap_format.specs.Capability.{Capability}
use Rattle.object_store.specs.Store.{Items}
use Rattle.walk_meaning.specs.declared.kind.Kind.{Kind}
use Rattle.walk_meaning.specs.Trail.{slots}
use Rattle.machine_state.specs.Outcome.{Touch}
use Rattle.machine_state.specs.Outcome.Touch.{DataAccess, CapAccess, GptCall, Changed}

-- a translator fetches at most as many slots for an access as a fresh walk reads, whatever it keeps
pub record WalksAtMost {K : Type 0} (cost : K → Items → Capability → ℕ → Kind → ℕ) : Type 0 where
  pub most : (k : K) (o : Items) (space : Capability) (address : ℕ) (kind : Kind) → cost k o space address kind ≤ slots o space address kind

-- how many slots a touch reads where each access is a fresh walk
abbrev pub walked_at : Touch → ℕ
walked_at (DataAccess o space address kind) = slots o space address kind
walked_at (CapAccess o space address kind) = slots o space address kind
walked_at (GptCall reads) = if reads then 1 else 0
walked_at (Changed item) = 0

-- how many touches read so
abbrev pub walked : List Touch → ℕ
walked touches = sum_by walked_at touches
