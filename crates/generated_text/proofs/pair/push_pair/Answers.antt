use Rattle.generated_text.proofs.Pushed.{pushed}
use Rattle.generated_text.proofs.pair.push_pair.Goals as goal

pub returns-clause-text : goal.returns-clause-text
returns-clause-text c =
    pushed _ _ _ _ _ (pushed _ _ _ _ _ (pushed _ _ _ _ _ (pushed _ _ _ _ _ (pushed _ _ _ _ _ c.push_call.ensures.text c.push_counting.ensures.text) c.push_receiving.ensures.text) c.push_answering.ensures.text) c.push_places.ensures.text) c.push_registers.ensures.text
