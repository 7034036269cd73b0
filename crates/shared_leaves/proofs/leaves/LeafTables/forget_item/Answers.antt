use Rattle.std.proofs.Common.{rules}
use Rattle.shared_leaves.specs.Effects.{Forgets, value_of}
use Rattle.shared_leaves.proofs.Changed.{coherent-differs}
use Rattle.shared_leaves.proofs.Forgotten.{forgets-more, forgotten, purged}
use Rattle.shared_leaves.proofs.leaves.LeafTables.forget_item.Goals as goal

-- all that was done to the records
all_done : (c : goal.After-records) → Forgets (value_of c.args.self.now) (value_of c.clear_one.new.self) c.args.item
all_done c =
    forgets-more (value_of c.args.self.now) (value_of c.records.self) (value_of c.clear_one.new.self) c.args.item c.records.invariant.forgets c.clear_one.ensures.forgets

pub returns-clause-without : goal.returns-clause-without
returns-clause-without c =
    forgotten (value_of c.args.self.now) (value_of c.clear_one.new.self) c.args.item (all_done c) (c.clear_one.ensures.none (search rules))

pub returns-clause-coherent : goal.returns-clause-coherent
returns-clause-coherent c = λ o p differ coherent.
    coherent-differs (value_of c.clear_one.new.self) c.args.item o p differ (c.clear_one.ensures.none (search rules)) ((all_done c).coherent o coherent)

pub returns-clause-purged : goal.returns-clause-purged
returns-clause-purged c = λ k.
    purged (value_of c.args.self.now) (value_of c.clear_one.new.self) c.args.item (all_done c) (c.clear_one.ensures.none (search rules)) k
