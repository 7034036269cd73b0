-- The proof that an access reads at most 32 slots: by induction on the capabilities that may be met.
use Rattle.std.specs.Prelude.{ℕ, zero, suc, ◌+◌, ◌≤◌, Option, Some, None}
use Rattle.std.proofs.Common.{arith}
use Rattle.cap_format.specs.Capability.{Capability}
use Rattle.object_store.specs.Store.{Items, slot_at}
use Rattle.walk_meaning.specs.declared.at.At.{At}
use Rattle.walk_meaning.specs.declared.kind.Kind.{Kind}
use Rattle.walk_meaning.specs.declared.step.Step.{Step}
use Rattle.walk_meaning.specs.declared.step.Step.TheVariants.{Reach, Fault, Go}
use Rattle.walk_meaning.specs.Walk.{step, start_at}
use Rattle.walk_meaning.specs.Trail.{handler_cost, read_cost, slots_from, slots}
use Rattle.walk_meaning.specs.After.{slots_after}
use Rattle.walk_meaning.specs.Laws.{SlotsLaw}
use Rattle.walk_meaning.proofs.Walked.{slots_from-zero, slots_from-suc}

-- a fault reads at most the handler's slot
pub handler_cost-most : (handler : Option ℕ) → handler_cost handler ≤ 1
handler_cost-most None = omega arith
handler_cost-most (Some g) = omega arith

module _ (o : Items) (kind : Kind) where
  -- what is read of the slots from a capability on, and its own slot
  abbrev Rest : ℕ → Type 0
  Rest n = (c : Capability) (w : At) → read_cost n + slots_from o kind n c w ≤ suc n

  after_most : (n : ℕ) → Rest n → (s : Step) → slots_after o kind n s ≤ suc n
  after_most n rest (Reach place) = omega arith
  after_most n rest (Fault code handler) = omega (arith, handler_cost-most handler)
  after_most n rest (Go next g i) = rest (slot_at o g i) next

  -- where n capabilities may be met, at most n + 1 slots are read with that of the first
  pub slots_from-most : (n : ℕ) → Rest n
  slots_from-most zero c w = omega (arith, slots_from-zero o kind c w, handler_cost-most w.handler)
  slots_from-most (suc n) c w = omega (arith, slots_from-suc o kind n c w, after_most n (slots_from-most n) (step o kind c w))

-- an access reads at most 32 slots
pub slots_law : SlotsLaw
slots_law o c address kind = omega (arith, slots_from-most o kind 32 c (start_at address))
