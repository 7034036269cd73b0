-- Objects that have their places for capabilities, and no more (this project's own).
use Rattle.std.specs.Prelude.{◌≡◌, List, length}
use Rattle.std.specs.List.{All}
use Rattle.cap_format.specs.declared.kind.CapKind.TheVariants.{CapPage, Gpt, Endpoint, Process}
use Rattle.cap_format.specs.Capability.{Capability}
use Rattle.gpt_objects.specs.Gpt.{GptValue}
use Rattle.process_objects.specs.Process.{ProcessValue}
use Rattle.object_store.specs.Store.{Store, size_of}

-- sixteen slots of a GPT, 256 of a capability page, 32 registers and three slots of a process; and as many objects as counts
pub record HasPlaces (s : Store) : Type 0 where
  pub gpts : All (λ (gpt : GptValue). length gpt.slots ≡ 16) s.items.gpts
  pub cappages : All (λ (page : List Capability). length page ≡ 256) s.contents.cappages
  pub processes : All (λ (process : ProcessValue). (length process.capregs ≡ 32) × (length process.slots ≡ 3)) s.contents.processes
  pub each_gpt : length s.items.gpts ≡ size_of s.items Gpt
  pub each_cappage : length s.contents.cappages ≡ size_of s.items CapPage
  pub each_process : length s.contents.processes ≡ size_of s.items Process
  pub each_endpoint : length s.contents.endpoints ≡ size_of s.items Endpoint
