use Rattle.read_back.proofs.Listed.{each}
use Rattle.read_back.proofs.texts_list_statements.Goals as goal

pub returns : goal.returns
returns c = each
