use Rattle.question_lines.proofs.line.plain.Goals as goal

pub returns-then-eq-2-clause-range : goal.returns-then-eq-2-clause-range
returns-then-eq-2-clause-range c = c.depth.ensures.range c.args.sizes

pub returns-then-eq-3-clause-range : goal.returns-then-eq-3-clause-range
returns-then-eq-3-clause-range c = c.states.ensures.range c.args.sizes

pub returns-then-eq-4-clause-range : goal.returns-then-eq-4-clause-range
returns-then-eq-4-clause-range c = c.end.ensures.range c.args.sizes
