use Rattle.object_parts.proofs.Tables.{passes_at}
use Rattle.object_parts.proofs.table.Table.find.Goals as goal

pub returns-clause-equal : goal.returns-clause-equal
returns-clause-equal g c = passes_at (g.Q.Equivalent.equivalent c.args.query) c.self.inside.set.keys c.in_ok-index.index c.in_ok-index.kept.now c.in_ok-index.ensures.index c.in_ok-index.ensures.stored
