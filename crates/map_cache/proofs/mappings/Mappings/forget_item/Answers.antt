use Rattle.std.proofs.Common.{rules}
use Rattle.map_cache.specs.Effects.{value_of}
use Rattle.map_cache.proofs.Coherence.{coherent-differs}
use Rattle.map_cache.proofs.Forgotten.{forgets-more, forgotten, purged}
use Rattle.map_cache.proofs.mappings.Mappings.forget_item.Goals as goal

pub returns-clause-without : goal.returns-clause-without
returns-clause-without c =
    let forgets = forgets-more (value_of c.args.self.now) (value_of c.records.self) (value_of c.clear_one.new.self) c.args.item c.records.invariant.forgets c.clear_one.ensures.forgets in
    forgotten (value_of c.args.self.now) (value_of c.clear_one.new.self) c.args.item forgets (c.clear_one.ensures.none (search rules))

pub returns-clause-coherent : goal.returns-clause-coherent
returns-clause-coherent c = λ o p differ coherent.
    let w = c.clear_one.new.self in
    let forgets = forgets-more (value_of c.args.self.now) (value_of c.records.self) (value_of c.clear_one.new.self) c.args.item c.records.invariant.forgets c.clear_one.ensures.forgets in
    coherent-differs w.tables w.keys.items w.tlbs.items w.records c.space_frame_law.ensures c.args.item o p differ (c.clear_one.ensures.none (search rules)) (forgets.coherent o coherent)

pub returns-clause-purged : goal.returns-clause-purged
returns-clause-purged c = λ k.
    let forgets = forgets-more (value_of c.args.self.now) (value_of c.records.self) (value_of c.clear_one.new.self) c.args.item c.records.invariant.forgets c.clear_one.ensures.forgets in
    purged (value_of c.args.self.now) (value_of c.clear_one.new.self) c.args.item c.requires forgets (c.clear_one.ensures.none (search rules)) k
