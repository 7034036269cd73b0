use Rattle.statement_text.proofs.Statements.{statement_reads}
use Rattle.statement_text.proofs.laws.statements_are_read.Goals as goal

pub returns : goal.returns
returns c = statement_reads
