use Rattle.explore_program.proofs.Called.{one_output, one_told}
use Rattle.explore_program.proofs.laws.output_laws.Goals as goal

pub returns : goal.returns
returns c = let one = c.explored_laws.ensures.one_answer in record { one = one_output one; told = one_told one }
