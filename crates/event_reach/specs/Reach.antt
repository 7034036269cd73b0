-- What an event may change besides processes, and that it changes nothing else. (This project's.)
use Rattle.std.specs.Prelude.{◌≡◌, ℕ, ◌⊎◌, List, [], ◌∷◌}
use Rattle.cap_format.specs.declared.kind.CapKind.{CapKind}
use Rattle.cap_format.specs.declared.kind.CapKind.TheVariants.{Endpoint, Process}
use Rattle.object_store.specs.Object.{ObjectName, object_name, IsAmong}
use Rattle.invocation.specs.Answerer.{Answer}
use Rattle.invocation.specs.Answerer.Answer.{Dead, Open, Busy}
use Rattle.string_move.specs.Move.{page_names}
use Rattle.event_reach.specs.declared.reach.Reach.{Reach}
use Rattle.event_reach.specs.declared.reach.Reach.TheVariants.{Nothing, Object, Message}

-- the names of the objects that are reached
abbrev pub names_of : Reach → List ObjectName
names_of Nothing = []
names_of (Object kind n) = object_name kind n ∷ []
names_of (Message e into) = object_name Endpoint e ∷ page_names into

-- each of the second names is that of a process, or is among the first
pub record Covers (found changed : List ObjectName) : Type 0 where
  pub each : (kind : CapKind) (n : ℕ) → IsAmong kind n changed → (kind ≡ Process) ⊎ IsAmong kind n found

-- the endpoint through which a fault is heard, if it is
abbrev pub heard_names : Answer → List ObjectName
heard_names Dead = []
heard_names (Busy q) = []
heard_names (Open e q) = object_name Endpoint e ∷ []
