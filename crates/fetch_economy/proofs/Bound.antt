-- The bound in every run: an access fetches the slots that its walk reads, or none.
use Rattle.std.proofs.Common.{ℕ, ◌+◌, ◌*◌, ◌≤◌, Bool, true, false, if◌then◌else◌, List, [], ◌∷◌, arith}
use Rattle.cap_format.specs.Capability.{Capability}
use Rattle.cap_format.specs.declared.item.Item.{Item}
use Rattle.object_store.specs.Store.{Items}
use Rattle.walk_meaning.specs.declared.kind.Kind.{Kind}
use Rattle.walk_meaning.specs.Trail.{slots}
use Rattle.walk_meaning.proofs.SlotsLaw.{slots_law}
use Rattle.map_cache.specs.Kept.{cost_of, is_spared, kept_after, kept_without}
use Rattle.machine_state.specs.Outcome.{Touch, spent}
use Rattle.machine_state.specs.Outcome.Touch.{DataAccess, CapAccess, GptCall, Changed}
use Rattle.fetch_economy.specs.Counts.{accesses, gpt_calls, slot_reads}
use Rattle.fetch_economy.specs.Laws.{BoundInEveryRun, RoundBound}

-- an access that is spared or walks fetches at most 32 slots
pub spared-most : (spared : Bool) (o : Items) (space : Capability) (address : ℕ) (kind : Kind) → (if spared then 0 else slots o space address kind) ≤ 32
spared-most true o space address kind = omega arith
spared-most false o space address kind = slots_law o space address kind

-- over any translator whose accesses of data do
module _ {K : Type 0} (cost : K → Items → Capability → ℕ → Kind → ℕ) (after : K → Items → Capability → ℕ → Kind → K) (without : K → Item → K)
    (most : (k : K) (o : Items) (space : Capability) (address : ℕ) (kind : Kind) → cost k o space address kind ≤ 32) where
  pub spent-most : (k : K) (touches : List Touch) → spent cost after without k touches ≤ 32 * accesses touches + slot_reads touches
  spent-most k [] = omega arith
  spent-most k (DataAccess o space address kind ∷ touches) = omega (arith, most k o space address kind, spent-most (after k o space address kind) touches)
  spent-most k (CapAccess o space address kind ∷ touches) = omega (arith, slots_law o space address kind, spent-most k touches)
  spent-most k (GptCall true ∷ touches) = omega (arith, spent-most k touches)
  spent-most k (GptCall false ∷ touches) = omega (arith, spent-most k touches)
  spent-most k (Changed item ∷ touches) = omega (arith, spent-most (without k item) touches)

pub bound_in_every_run : BoundInEveryRun
bound_in_every_run = spent-most cost_of kept_after kept_without (λ kept o space address kind. spared-most (is_spared kept o space address kind) o space address kind)

-- no more slots are read than GPTs are invoked
pub slot_reads-most : (touches : List Touch) → slot_reads touches ≤ gpt_calls touches
slot_reads-most [] = omega arith
slot_reads-most (DataAccess o space address kind ∷ touches) = slot_reads-most touches
slot_reads-most (CapAccess o space address kind ∷ touches) = slot_reads-most touches
slot_reads-most (GptCall true ∷ touches) = omega (arith, slot_reads-most touches)
slot_reads-most (GptCall false ∷ touches) = omega (arith, slot_reads-most touches)
slot_reads-most (Changed item ∷ touches) = slot_reads-most touches

pub round_bound : RoundBound
round_bound kept touches = omega (arith, bound_in_every_run kept touches, slot_reads-most touches)
