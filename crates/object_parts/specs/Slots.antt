-- The slots of a GPT.
use Rattle.std.specs.Prelude.{◌≡◌, List, length}
use Rattle.std.specs.List.{All}
use Rattle.cap_format.specs.Capability.{Capability, IsCapability}

-- sixteen capabilities, each in its ranges
pub record AreSixteen (slots : List Capability) : Type 0 where
  pub sixteen : length slots ≡ 16
  pub ranges : All IsCapability slots
