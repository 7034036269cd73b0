use Rattle.traced_parts.proofs.Traced.{came_traced}
use Rattle.traced_parts.proofs.parts.receive.Goals as goal

pub returns-clause-came : goal.returns-clause-came
returns-clause-came g c = came_traced g.T.Translator c.args.p _ _ _ _ _ _ _ c.listen.ensures.came
