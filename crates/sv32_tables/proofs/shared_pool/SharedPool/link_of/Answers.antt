use Rattle.std.proofs.Common.{sym, subst}
use Rattle.sv32_tables.specs.declared.shared_use.SharedUse.TheVariants.{Root}
use Rattle.sv32_tables.specs.Shared.{IsSharedRoot, IsWordOf, SharedValue}
use Rattle.sv32_tables.proofs.SharedWords.{number-link}
use Rattle.sv32_tables.proofs.shared_pool.SharedPool.link_of.Goals as goal

-- the word that is read is a root's
word : (c : goal.After-get) → IsWordOf c.self.inside.uses.items Root c.get.result
word c =
    let Made : SharedValue → Type 0 = λ v. IsSharedRoot v c.args.root in
    let made = subst Made (sym c.self.view_is) c.requires in
    rw c.get.ensures (c.self.invariant.word c.args.root c.region_of.result Root made c.region_of.ensures.range)

pub table_of-requires-clause-low : goal.table_of-requires-clause-low
table_of-requires-clause-low c = (number-link _ c.get.result c.self.invariant.room (word c)).0

pub table_of-requires-clause-high : goal.table_of-requires-clause-high
table_of-requires-clause-high c = (number-link _ c.get.result c.self.invariant.room (word c)).1
