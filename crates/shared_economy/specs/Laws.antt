-- The laws of what touches fetch over shared leaf tables, and of how many frames these use (this project's own).
use Rattle.std.specs.Prelude.{ℕ, true, false, ◌≡◌, ◌+◌, ◌*◌, ◌≤◌, List}
use Rattle.cap_format.specs.Capability.{Capability}
use Rattle.object_store.specs.Store.{Items}
use Rattle.map_cache.specs.Kept.{counted}
use Rattle.shared_leaves.specs.Kept.{SharedKept, is_held, nothing}
use Rattle.machine_state.specs.Outcome.{Touch}
use Rattle.fetch_economy.specs.Counts.{accesses, gpt_calls, slot_reads}
use Rattle.fetch_economy.specs.Economy.{at_start, economy_after, uncovered}
use Rattle.fetch_economy.specs.Follows.{Follows}
use Rattle.shared_economy.specs.Counts.{fetched_by, frames, kept_by, overflows_in}
use Rattle.shared_economy.specs.Need.{frames_needed, need_fits}
use Rattle.shared_economy.specs.Accesses.{AreAccesses}

-- ---- in every run

-- Whatever is kept before them, touches fetch at most 32 slots for each access, and one for each slot that an
-- operation reads.
abbrev pub BoundInEveryRun : Type 0
BoundInEveryRun =
    (kept : SharedKept) (touches : List Touch) →
    fetched_by kept touches ≤ 32 * accesses touches + slot_reads touches

-- The same in rounder numbers: 33 for each access, and one for each invocation of a GPT's capability.
abbrev pub RoundBound : Type 0
RoundBound =
    (kept : SharedKept) (touches : List Touch) →
    fetched_by kept touches ≤ 33 * accesses touches + gpt_calls touches

-- Touches that begin with nothing kept leave at most as many frames in use as are needed, and at most 256.
pub record AreFew (touches : List Touch) : Type 0 where
  pub needed : frames (kept_by nothing touches) ≤ frames_needed touches
  pub most : frames (kept_by nothing touches) ≤ 256

-- so it is in every run
abbrev pub FewerFrames : Type 0
FewerFrames = (touches : List Touch) → AreFew touches

-- ---- where the shared need fits

-- What touches come to that begin with nothing kept and end over these items: as many frames are in use as are
-- needed; at most 32 slots are fetched for each touch that has to be walked, and one for each slot that an operation
-- reads; each covered pair is held; and at no time was all forgotten for want of room.
pub record IsEconomic (end : Items) (touches : List Touch) : Type 0 where
  pub exact : frames (kept_by nothing touches) ≡ frames_needed touches
  pub few : fetched_by nothing touches ≤ 32 * uncovered at_start touches + slot_reads touches
  pub held : (space : Capability) (page : ℕ)
      → (economy_after at_start touches).covered space page ≡ true
      → is_held (kept_by nothing touches) (counted end space) page ≡ true
  pub whole : overflows_in nothing touches ≡ false

-- So it is where the shared need of touches fits, each access is over the items of its moment and in its ranges, and
-- each change of an item is told.
abbrev pub SharedEconomy : Type 0
SharedEconomy =
    (start end : Items) (touches : List Touch) → Follows start touches end → AreAccesses touches →
    need_fits touches ≡ true → IsEconomic end touches

-- the bound in rounder numbers
abbrev pub RoundEconomy : Type 0
RoundEconomy =
    (start end : Items) (touches : List Touch) → Follows start touches end → AreAccesses touches →
    need_fits touches ≡ true →
    fetched_by nothing touches ≤ 33 * uncovered at_start touches + gpt_calls touches
