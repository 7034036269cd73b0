-- What is found of a cut by what the objects mean, and how many slots of GPTs are read to find it. (Own.)
use Rattle.std.specs.Prelude.{◌≡◌, ℕ, ◌<◌, ◌⊎◌, ◌+◌, ◌*◌, Option}
use Rattle.std.specs.Option.{option_or}
use Rattle.cap_format.specs.declared.kind.CapKind.{CapKind}
use Rattle.cap_format.specs.declared.kind.CapKind.TheVariants.{CapPage, Gpt, Endpoint, Process}
use Rattle.cap_format.specs.Capability.{bare}
use Rattle.object_store.specs.Store.{Store, size_of}
use Rattle.machine_state.specs.State.{State}
use Rattle.confinement.specs.Cut.{Cut, side_of, MayHold}
use Rattle.confine_check.specs.declared.verdict.Breach.{Breach}
use Rattle.confine_check.specs.declared.verdict.Verdict.{Verdict}
use Rattle.confine_check.specs.declared.verdict.Verdict.TheVariants.{Yes, Capability as CapabilityBreaks, Sleeper}
use Rattle.object_store.specs.Places.{cap_in, object_reads, places_in, reads_in}
use Rattle.confine_check.specs.Breach.{breach_by, first_from, found_by, sleeper_of}

-- ---- by what the objects mean

-- the first that breaks a cut in an object of the model's map, where each capability stands as it means
abbrev pub meant_of_object : Cut → Store → CapKind → ℕ → Option Breach
meant_of_object cut s kind n = first_from (λ i. breach_by cut kind n i (cap_in s kind n i)) 0 (places_in kind)

-- the first in the objects of a kind
abbrev pub meant_of_kind : Cut → Store → CapKind → Option Breach
meant_of_kind cut s kind = first_from (meant_of_object cut s kind) 0 (size_of s.items kind)

-- the first in all objects
abbrev pub meant_of : Cut → Store → Option Breach
meant_of cut s =
    option_or (meant_of_kind cut s CapPage)
    (option_or (meant_of_kind cut s Gpt)
    (option_or (meant_of_kind cut s Endpoint) (meant_of_kind cut s Process)))

-- what is found of a cut of a state
abbrev pub verdict_in : Cut → State → Verdict
verdict_in cut s = found_by (meant_of cut s.store) (sleeper_of cut s.queues)

-- a verdict by what its capability means, which has no count
abbrev pub meant : Verdict → Verdict
meant (CapabilityBreaks kind n i cap) = CapabilityBreaks kind n i (bare cap)
meant Yes = Yes
meant (Sleeper process) = Sleeper process

-- ---- the first

-- the place of the objects of a kind among those that hold capabilities, in the order in which they are printed
abbrev pub rank_of : CapKind → ℕ
rank_of CapPage = 0
rank_of Gpt = 1
rank_of Endpoint = 2
rank_of _ = 3

-- place `i` of object `n` of a kind comes before that of a breach: its kind does, or in the same kind its object, or in the
-- same object its place
abbrev pub IsBefore : CapKind → ℕ → ℕ → Breach → Type 0
IsBefore kind n i found =
    (rank_of kind < rank_of found.kind)
    ⊎ ((kind ≡ found.kind) × ((n < found.number) ⊎ ((n ≡ found.number) × (i < found.place))))

-- this capability stands in that place, where it breaks a cut, and none before it does
pub record IsFirstBreach (cut : Cut) (s : Store) (found : Breach) : Type 0 where
  pub object : found.number < size_of s.items found.kind
  pub place : found.place < places_in found.kind
  pub cap : found.cap ≡ cap_in s found.kind found.number found.place
  pub breaks : ¬ (MayHold cut (side_of cut found.kind found.number) found.cap)
  pub before : (kind : CapKind) (n i : ℕ) → n < size_of s.items kind → i < places_in kind → IsBefore kind n i found
      → MayHold cut (side_of cut kind n) (cap_in s kind n i)

-- ---- how many slots are read

-- those of the kinds that are looked at before this one, of so many GPTs
abbrev pub kinds_before : CapKind → ℕ → ℕ
kinds_before Endpoint gpts = 16 * gpts
kinds_before Process gpts = 16 * gpts
kinds_before _ gpts = 0

-- up to what is found: of a GPT the slots up to its own, and all of those before it; and all slots where nothing is found in
-- capability pages and GPTs
abbrev pub reads_to : Verdict → ℕ → ℕ
reads_to (CapabilityBreaks kind n place cap) gpts =
    kinds_before kind gpts + object_reads kind * n + reads_in kind * (place + 1)
reads_to Yes gpts = 16 * gpts
reads_to (Sleeper process) gpts = 16 * gpts
