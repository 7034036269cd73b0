use Rattle.object_store.proofs.Ranged.{IsRanged-set_gpt}
use Rattle.object_store.proofs.objects.Objects.put_slot.Goals as goal

pub invariant_of-self : goal.invariant_of-self
invariant_of-self c = record {
  ranged = IsRanged-set_gpt _ _ _ c.set_slot.ensures.range c.self.invariant.ranged;
  sized = c.self.invariant.sized;
}
