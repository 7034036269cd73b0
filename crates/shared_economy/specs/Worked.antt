-- Two worked values, which hold the shared need against numbers from outside.
use Rattle.std.specs.Prelude.{ℕ, ◌≡◌, List, [], ◌∷◌, replicate}
use Rattle.cap_format.specs.Capability.{Capability, capability}
use Rattle.cap_format.specs.Guard.{guard_of}
use Rattle.cap_format.specs.declared.kind.CapKind.TheVariants.{Gpt}
use Rattle.object_store.specs.Store.{Items, counts_by_kind}
use Rattle.walk_meaning.specs.declared.kind.Kind.TheVariants.{Fetch}
use Rattle.machine_state.specs.Outcome.{Touch}
use Rattle.machine_state.specs.Outcome.Touch.{DataAccess}
use Rattle.fetch_economy.specs.Economy.{frames_needed as frames_apart}
use Rattle.fetch_economy.specs.Worked.{leading, to_gpt, to_page}
use Rattle.shared_economy.specs.Need.{frames_needed}

-- GPT 0 and GPT 1 lead to GPT 2, each behind a guard of 2^28 addresses, and this to page 0
abbrev pub joined_items : Items
joined_items = record {
  counts = counts_by_kind (0 ∷ []) [] (replicate 3 0) [] [];
  gpts = leading 28 (to_gpt 2 28 ∷ []) ∷ leading 28 (to_gpt 2 28 ∷ [])
      ∷ leading 12 (to_page 0 ∷ []) ∷ [];
}

-- the fetch of an instruction
abbrev pub fetch : Capability → ℕ → Touch
fetch space pc = DataAccess joined_items space pc Fetch

-- the first instruction of a process whose space is GPT 0, and of one whose space is GPT 1
abbrev pub joined : List Touch
joined = fetch (to_gpt 0 32) 0 ∷ fetch (to_gpt 1 32) 0 ∷ []

-- a capability to GPT 2 behind a guard of 2^16 addresses, which has this match
abbrev pub narrow : ℕ → Capability
narrow matches = capability Gpt 0 0 (guard_of 16 matches) 2 0 0

-- the first instruction of a process whose space is GPT 2 behind such a guard, and of one with the next match
abbrev pub apart : List Touch
apart = fetch (narrow 0) 0 ∷ fetch (narrow 1) 65536 ∷ []

-- Two spaces that come to one GPT by guards of a region or more need a frame each, and one for a leaf table. Without
-- sharing they would need four. By smaller guards they share none.
pub record FramesAreShared : Type 0 where
  pub shared : frames_needed joined ≡ 3
  pub unshared : frames_apart joined ≡ 4
  pub narrow_guards : frames_needed apart ≡ 4
