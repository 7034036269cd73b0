use Rattle.object_lines.proofs.Lines.{line_ended}
use Rattle.statement_text.proofs.statement.push_process.Goals as goal

pub returns-clause-text : goal.returns-clause-text
returns-clause-text c = line_ended _ _ _ _ _ _ _ c.push_process_front.ensures.text c.push_state.ensures.text c.push_word.ensures.text
