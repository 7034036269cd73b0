-- The ranges of what the abstract machine's objects hold (words and bytes are RV32I's, the rest are this project's limits).
use Rattle.std.specs.Prelude.{◌≡◌, ℕ, ◌+◌, ◌<◌, ◌≤◌, ◌^◌, length}
use Rattle.std.specs.List.{All}
use Rattle.cap_format.specs.Capability.{Capability, IsCapability}
use Rattle.process_objects.specs.Process.{ProcessValue}
use Rattle.process_objects.specs.declared.state.State.{State as RunState}
use Rattle.process_objects.specs.declared.state.State.TheVariants.{Running, Receiving, Faulted}
use Rattle.endpoint_objects.specs.declared.endpoint.Endpoint.{Endpoint as EndpointValue}
use Rattle.object_store.specs.Store.{Store}
use Rattle.object_store.specs.Ranges.{IsRanged}

-- a capability of the model: in its ranges, and without a count
abbrev pub IsModelCap : Capability → Type 0
IsModelCap c = IsCapability c × (c.count ≡ 0)

-- a number of 32 bits (RV32I)
abbrev pub IsWord : ℕ → Type 0
IsWord number = number < 2 ^ 32

-- a number of 8 bits (RV32I)
abbrev pub IsByte : ℕ → Type 0
IsByte number = number < 2 ^ 8

-- what a process does: a receiver's buffer ends below the last address or at it, and a fault's address is a word
abbrev pub IsRangedState : RunState → Type 0
IsRangedState Running = Unit {0}
IsRangedState (Receiving accept) = accept.at + accept.bound ≤ 2 ^ 32
IsRangedState (Faulted code address) = IsWord address

-- a process: its pc and its registers are words, and its capabilities are those of the model
pub record IsRangedProcess (process : ProcessValue) : Type 0 where
  pub pc : IsWord process.pc
  pub regs : All IsWord process.regs
  pub capregs : All IsModelCap process.capregs
  pub slots : All IsModelCap process.slots
  pub state : IsRangedState process.state

-- an endpoint: its id and its payload are words, and its recipient is a capability of the model
pub record IsRangedEndpoint (endpoint : EndpointValue) : Type 0 where
  pub id : IsWord endpoint.id
  pub payload : IsWord endpoint.payload
  pub recipient : IsModelCap endpoint.recipient

-- all objects: counts and headers are in their ranges, each capability is one of the model, each byte a byte, each register
-- a word, and there are at most as many processes as a machine may have
pub record AreInRanges (s : Store) : Type 0 where
  pub items : IsRanged s.items
  pub gpts : All (λ gpt. All IsModelCap gpt.slots) s.items.gpts
  pub pages : All (All IsByte) s.contents.pages
  pub cappages : All (All IsModelCap) s.contents.cappages
  pub processes : All IsRangedProcess s.contents.processes
  pub few : length s.contents.processes ≤ 256
  pub endpoints : All IsRangedEndpoint s.contents.endpoints
