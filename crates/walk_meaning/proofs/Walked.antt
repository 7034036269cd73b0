-- The three recursions of a walk, unfolded by one capability.
use Rattle.std.specs.Prelude.{◌≡◌, ℕ, zero, suc, ◌+◌, List, [], ◌∷◌, ◌++◌, Result, Ok, Err, refl}
use Rattle.std.proofs.Common.{ap}
use Rattle.cap_format.specs.Capability.{Capability}
use Rattle.cap_format.specs.declared.fault.FaultCode.TheVariants.{MalformedSpace}
use Rattle.cap_format.specs.declared.item.Item.TheVariants.{Slot}
use Rattle.object_store.specs.Store.{Items, slot_at}
use Rattle.walk_meaning.specs.declared.at.At.{At}
use Rattle.walk_meaning.specs.declared.kind.Kind.{Kind}
use Rattle.walk_meaning.specs.declared.noted.Noted.{Noted}
use Rattle.walk_meaning.specs.declared.place.Place.{Place}
use Rattle.walk_meaning.specs.declared.place.WalkFault.{WalkFault}
use Rattle.walk_meaning.specs.declared.step.Step.{Step}
use Rattle.walk_meaning.specs.declared.step.Step.TheVariants.{Reach, Fault, Go}
use Rattle.walk_meaning.specs.Walk.{step, fault, walk}
use Rattle.walk_meaning.specs.Trail.{noted, header_noted, trail_from, handler_cost, read_cost, slots_from}
use Rattle.walk_meaning.specs.After.{walk_after, trail_after, slots_after}

module _ (o : Items) (kind : Kind) where
  -- where no capability may be met any more, the walk is malformed
  pub walk-zero : (c : Capability) (w : At) → ◌≡◌ {A = Result Place WalkFault} (walk o kind zero c w) (Err (fault o MalformedSpace w.handler))
  unfolding walk
  walk-zero c w = refl

  -- else it is what its first step leaves
  pub walk-suc : (n : ℕ) (c : Capability) (w : At) → walk o kind (suc n) c w ≡ walk_after o kind n (step o kind c w)
  unfolding walk
  walk-suc n c w = on (step o kind c w)
    where
      on : (s : Step) → ◌≡◌ {A = Result Place WalkFault} (elim s [ Reach place ↦ Ok place | Fault code handler ↦ Err (fault o code handler) | Go next g i ↦ walk o kind n (slot_at o g i) next ]) (walk_after o kind n s)
      on (Reach place) = refl
      on (Fault code handler) = refl
      on (Go next g i) = refl

  -- the trail notes the header first, and then what is read after the step
  pub trail_from-suc : (address n : ℕ) (c : Capability) (w : At) → trail_from o kind address (suc n) c w ≡ header_noted c address w.l2 ++ trail_after o kind address n (step o kind c w)
  unfolding trail_from
  trail_from-suc address n c w = ap (λ (t : List Noted). header_noted c address w.l2 ++ t) (on (step o kind c w))
    where
      on : (s : Step) → ◌≡◌ {A = List Noted} (elim s [ Reach place ↦ [] | Fault code handler ↦ [] | Go next g i ↦ noted (Slot g i) address next.l2 ∷ trail_from o kind address n (slot_at o g i) next ]) (trail_after o kind address n s)
      on (Reach place) = refl
      on (Fault code handler) = refl
      on (Go next g i) = refl

  -- where no capability may be met any more, nothing is noted
  pub trail_from-zero : (address : ℕ) (c : Capability) (w : At) → ◌≡◌ {A = List Noted} (trail_from o kind address zero c w) []
  unfolding trail_from
  trail_from-zero address c w = refl

  -- where no capability may be met any more, the slot of the handler alone is read
  pub slots_from-zero : (c : Capability) (w : At) → slots_from o kind zero c w ≡ handler_cost w.handler
  unfolding slots_from
  slots_from-zero c w = refl

  -- else the slots that are read after the first step
  pub slots_from-suc : (n : ℕ) (c : Capability) (w : At) → slots_from o kind (suc n) c w ≡ slots_after o kind n (step o kind c w)
  unfolding slots_from
  slots_from-suc n c w = on (step o kind c w)
    where
      on : (s : Step) → ◌≡◌ {A = ℕ} (elim s [ Reach place ↦ 0 | Fault code handler ↦ handler_cost handler | Go next g i ↦ read_cost n + slots_from o kind n (slot_at o g i) next ]) (slots_after o kind n s)
      on (Reach place) = refl
      on (Fault code handler) = refl
      on (Go next g i) = refl
