use Rattle.generated_text.specs.Text.{call_text}
use Rattle.generated_text.proofs.Pushed.{pushed}
use Rattle.generated_text.proofs.pair.push_call.Goals as goal

pub returns-clause-text : goal.returns-clause-text
unfolding call_text
returns-clause-text c =
    pushed _ _ _ _ _ (pushed _ _ _ _ _ (pushed _ _ _ _ _ c.push_code.ensures.text c.push_code-2.ensures.text) c.push_code-3.ensures.text) c.push_code-4.ensures.text
