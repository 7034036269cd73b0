use Rattle.gpt_objects.proofs.Ranges.{IsGpt-with_slot}
use Rattle.gpt_objects.proofs.gpt.Gpt.set_slot.Goals as goal

pub returns-clause-range : goal.returns-clause-range
returns-clause-range c =
    IsGpt-with_slot (record { header = c.self.inside.header; slots = c.self.inside.slots }) _ _
    c.kind-kind.ensures.range c.self.invariant
