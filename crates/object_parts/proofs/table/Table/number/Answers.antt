use Rattle.object_parts.proofs.Tables.{apart, stored}
use Rattle.object_parts.proofs.table.Table.number.Goals as goal

pub invariant_of-self-2 : goal.invariant_of-self-2
invariant_of-self-2 g c = apart g.K.Kept.content g.K.PartialEq.eq g.met.K.Kept.decides c.insert_full.new.self.keys c.insert_full.ensures.unique

pub returns-clause-value : goal.returns-clause-value
returns-clause-value g c =
    let found = c.in_ok-index.ensures.stored in
    stored g.K.Kept.content g.K.PartialEq.eq g.met.K.Kept.decides c.insert_full.new.self.keys c.in_ok-index.index c.args.kept found.0 found.1 found.2
