use Rattle.generated_text.specs.Text.{receiving_text}
use Rattle.generated_text.proofs.Pushed.{pushed}
use Rattle.generated_text.proofs.pair.push_receiving.Goals as goal

pub returns-clause-text : goal.returns-clause-text
unfolding receiving_text
returns-clause-text c =
    pushed _ _ _ _ _ (pushed _ _ _ _ _ c.push_code.ensures.text c.push_code-2.ensures.text) c.push_code-3.ensures.text
