-- One object as it is kept by itself: its count and its record.
use Rattle.std.specs.Prelude.{ℕ, zero, suc, ◌+◌, ◌*◌, ◌/◌, ◌%◌, ◌^◌, List, [], ◌∷◌, ◌++◌, length, slice_index}
use Rattle.std.specs.Int.{w64, from_le_bytes}
use Rattle.std.specs.List.{flat_map}
use Rattle.std.specs.Hash as fed
use Rattle.cap_format.specs.Capability.{Capability}
use Rattle.object_store.specs.Object.{ObjectValue}
use Rattle.object_store.specs.Object.ObjectValue.{OfPage, OfCapPage, OfGpt, OfProcess, OfEndpoint, OfNone}

-- a number with one more folded into it: times an odd number, plus the other, below 2^64
abbrev pub mixed : ℕ → ℕ → ℕ
mixed h x = (h * 15074714826142052245 % 2 ^ 64 + x) % 2 ^ 64

-- two numbers below 2^32 as one, the lower first, with 0 in the place of one that isn't there
abbrev pub two_at : List ℕ → ℕ → ℕ
two_at numbers i = slice_index numbers (2 * i) + 4294967296 * slice_index numbers (2 * i + 1)

-- a number with others folded into it, so many times two of them
unfoldable pub folded_twos : ℕ → List ℕ → ℕ → ℕ
folded_twos h numbers zero = h
folded_twos h numbers (suc i) = mixed (folded_twos h numbers i) (two_at numbers i)

-- a number with those of a list folded into it
abbrev pub folded : ℕ → List ℕ → ℕ
folded h numbers = folded_twos h numbers ((length numbers + 1) / 2)

-- eight bytes as one number, the lowest first
abbrev pub eight_at : List ℕ → ℕ → ℕ
eight_at bytes i = from_le_bytes w64 (
    slice_index bytes (8 * i) ∷ slice_index bytes (8 * i + 1) ∷ slice_index bytes (8 * i + 2) ∷ slice_index bytes (8 * i + 3)
    ∷ slice_index bytes (8 * i + 4) ∷ slice_index bytes (8 * i + 5) ∷ slice_index bytes (8 * i + 6) ∷ slice_index bytes (8 * i + 7) ∷ [])

-- a number with bytes folded into it, so many times eight of them
unfoldable pub folded_bytes : ℕ → List ℕ → ℕ → ℕ
folded_bytes h bytes zero = h
folded_bytes h bytes (suc i) = mixed (folded_bytes h bytes i) (eight_at bytes i)

-- what is hashed of a capability
abbrev pub hashed_cap : Capability → fed.HashWrites
hashed_cap c = fed.u32 c.object

-- what is hashed of capabilities
abbrev pub hashed_caps : List Capability → fed.HashWrites
hashed_caps caps = flat_map hashed_cap caps

-- what is hashed of an object: of a process neither its state nor its capabilities
abbrev pub hashed : ObjectValue → fed.HashWrites
hashed (OfPage count page) = fed.u64 (folded_bytes count page 512)
hashed (OfCapPage count page) = fed.u32 count ++ hashed_caps page
hashed (OfGpt count gpt) = fed.u32 count ++ hashed_caps gpt.slots
hashed (OfProcess count process) = fed.u64 (folded process.pc process.regs)
hashed (OfEndpoint count endpoint) = fed.u32 count ++ fed.u32 endpoint.payload
hashed OfNone = []
