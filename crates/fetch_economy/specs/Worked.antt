-- Two worked values, which hold the definitions of economy against numbers from outside.
use Rattle.std.specs.Prelude.{ℕ, zero, suc, ◌≡◌, ◌≤◌, ◌-◌, false, List, [], ◌∷◌, ◌++◌, length, replicate}
use Rattle.cap_format.specs.Capability.{Capability, capability, null}
use Rattle.cap_format.specs.Guard.{guard_of}
use Rattle.cap_format.specs.declared.item.Item.TheVariants.{Slot}
use Rattle.cap_format.specs.declared.kind.CapKind.TheVariants.{Gpt, Page}
use Rattle.gpt_objects.specs.Header.{header_of}
use Rattle.gpt_objects.specs.Gpt.{GptValue}
use Rattle.object_store.specs.Store.{Items, counts_by_kind}
use Rattle.walk_meaning.specs.declared.kind.Kind.TheVariants.{Fetch, Load}
use Rattle.map_cache.specs.Kept.{nothing}
use Rattle.machine_state.specs.Outcome.{Touch}
use Rattle.machine_state.specs.Outcome.Touch.{DataAccess, Changed}
use Rattle.fetch_economy.specs.Counts.{fetched_by}
use Rattle.fetch_economy.specs.Economy.{at_start, frames_needed, records_needed, uncovered}

-- a GPT whose slots cover 2^l2v addresses each, with these capabilities in the first ones
abbrev pub leading : ℕ → List Capability → GptValue
leading l2v caps = record { header = header_of l2v false false; slots = caps ++ replicate (16 - length caps) null }

-- a capability to page `n`
abbrev pub to_page : ℕ → Capability
to_page n = capability Page 0 0 (guard_of 12 0) n 0 0

-- a capability to GPT `n` behind a guard of 2^l2g addresses
abbrev pub to_gpt : ℕ → ℕ → Capability
to_gpt n l2g = capability Gpt 0 0 (guard_of l2g 0) n 0 0

-- ---- a process whose space is three GPTs and a page rewrites a slot of a fourth GPT, again and again

-- GPT 0 leads to GPT 1, this to GPT 2, and this to page 0; slot 0 of GPT 3 has whatever was written there
abbrev pub items_with : Capability → Items
items_with c = record {
  counts = counts_by_kind (0 ∷ []) (0 ∷ []) (replicate 4 0) (0 ∷ []) [];
  gpts = leading 20 (to_gpt 1 20 ∷ []) ∷ leading 16 (to_gpt 2 16 ∷ []) ∷ leading 12 (to_page 0 ∷ []) ∷ leading 12 (c ∷ []) ∷ [];
}

-- the space: GPT 0 behind a guard of 2^24 addresses
abbrev pub space : Capability
space = to_gpt 0 24

-- the fetch of an instruction
abbrev pub fetch : Capability → ℕ → Touch
fetch c pc = DataAccess (items_with c) space pc Fetch

-- a round of the program: the fourth instruction, which is at address 12, writes page 0 over what the slot has
abbrev pub round : Capability → List Touch
round c = fetch c 0 ∷ fetch c 4 ∷ fetch c 8 ∷ fetch c 12 ∷ Changed (Slot 3 0) ∷ fetch (to_page 0) 16 ∷ fetch (to_page 0) 20 ∷ []

-- so many rounds more
abbrev pub rounds : ℕ → List Touch
rounds zero = []
rounds (suc n) = round (to_page 0) ++ rounds n

-- the first round, where the slot is empty, and so many more
abbrev pub rewrites : ℕ → List Touch
rewrites n = round null ++ rounds n

-- Two frames and seven records are needed, and one access is walked: the first fetch, which reads three headers of GPTs,
-- three slots and the header of the page. So no more slots are fetched than a walk may read.
pub record IsCheap (touches : List Touch) : Type 0 where
  pub frames : frames_needed touches ≡ 2
  pub records : records_needed touches ≡ 7
  pub walked : uncovered at_start touches ≡ 1
  pub few : fetched_by nothing touches ≤ 32

-- however often the slot is rewritten
abbrev pub RewritesAreCheap : Type 0
RewritesAreCheap = (n : ℕ) → IsCheap (rewrites n)

-- ---- two spaces, and changes that take pairs of one of them

-- GPT 0 leads to page 0 and page 1, and GPT 1 to page 0
abbrev pub two_spaces : Items
two_spaces = record {
  counts = counts_by_kind (replicate 2 0) [] (replicate 2 0) [] [];
  gpts = leading 12 (to_page 0 ∷ to_page 1 ∷ []) ∷ leading 12 (to_page 0 ∷ []) ∷ [];
}

-- a load at an address of the space of GPT `n`
abbrev pub load : ℕ → ℕ → Touch
load n address = DataAccess two_spaces (to_gpt n 16) address Load

-- both pages of the first space, and the page of the second
abbrev pub loads : List Touch
loads = load 0 0 ∷ load 0 4096 ∷ load 1 0 ∷ []

-- the slot for page 1 and the slot of the second space change between two such rounds
abbrev pub selective : List Touch
selective = loads ++ Changed (Slot 0 1) ∷ Changed (Slot 1 0) ∷ loads

-- Of the second round's three loads two are walked: that of page 0 in the first space read neither slot. Each space and its
-- first region need a frame. The records are of two headers of GPTs, three slots, and three headers of pages: that of page 0
-- was read for each space.
pub record IsSelective (touches : List Touch) : Type 0 where
  pub walked : uncovered at_start touches ≡ 5
  pub frames : frames_needed touches ≡ 4
  pub records : records_needed touches ≡ 8

-- so it is here
abbrev pub ChangesAreSelective : Type 0
ChangesAreSelective = IsSelective selective
