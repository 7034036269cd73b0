use Rattle.question_lines.proofs.terms.operand.Goals as goal

pub returns-then-eq-clause-range : goal.returns-then-eq-clause-range
returns-then-eq-clause-range c = c.number.ensures.range c.args.sizes
