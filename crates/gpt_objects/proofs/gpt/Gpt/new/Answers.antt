use Rattle.gpt_objects.proofs.Ranges.{IsGpt-empty_gpt}
use Rattle.gpt_objects.proofs.gpt.Gpt.new.Goals as goal

pub invariant_of-result : goal.invariant_of-result
invariant_of-result c = rw (c.empty.ensures, c.nulls.ensures) IsGpt-empty_gpt

pub returns-clause-range : goal.returns-clause-range
returns-clause-range c = rw (c.empty.ensures, c.nulls.ensures) IsGpt-empty_gpt
