use Rattle.std.proofs.Common.{◌≡◌, ◌/◌, sym, subst, arith}
use Rattle.sv32_tables.specs.declared.shared_use.SharedUse.TheVariants.{Leaf, Root}
use Rattle.sv32_tables.specs.Shared.{IsSharedRoot, IsWordOf, SharedValue, shared_leaf_at}
use Rattle.sv32_tables.specs.Sv32.{Access, reached, through}
use Rattle.sv32_tables.proofs.Leaves.{number-leaf}
use Rattle.sv32_tables.proofs.SharedWords.{number-link, reached-shared, read_link, shared_inside}
use Rattle.sv32_tables.proofs.shared_pool.SharedPool.hw_walk.Goals as goal

-- the first word that is read is a root's
first : (c : goal.After-get-first) → IsWordOf c.self.inside.uses.items Root c.get-first.result
first c =
    let Made : SharedValue → Type 0 = λ v. IsSharedRoot v c.args.root in
    let made = subst Made (sym c.self.view_is) c.requires in
    rw c.get-first.ensures (c.self.invariant.word c.args.root c.region_of.result Root made c.region_of.ensures.range)

pub table_of-requires-clause-low : goal.table_of-requires-clause-low
table_of-requires-clause-low c = (number-link _ c.get-first.result c.self.invariant.room (first c)).0

pub table_of-requires-clause-high : goal.table_of-requires-clause-high
table_of-requires-clause-high c = (number-link _ c.get-first.result c.self.invariant.room (first c)).1

pub get-second-requires : goal.get-second-requires
get-second-requires c =
    let Made : SharedValue → Type 0 = λ v. IsSharedRoot v c.args.root in
    let made = subst Made (sym c.self.view_is) c.requires in
    let led = read_link _ _ c.args.root _ _ c.in-Some.table c.self.invariant made c.region_of.ensures.range c.get-first.ensures c.in-Some.ensures in
    shared_inside _ _ c.in-Some.table c.index_of.result Leaf c.self.invariant led c.index_of.ensures.range

pub leaf_of-requires : goal.leaf_of-requires
leaf_of-requires c =
    let Made : SharedValue → Type 0 = λ v. IsSharedRoot v c.args.root in
    let made = subst Made (sym c.self.view_is) c.requires in
    let led = read_link _ _ c.args.root _ _ c.in-Some.table c.self.invariant made c.region_of.ensures.range c.get-first.ensures c.in-Some.ensures in
    number-leaf c.get-second.result
    (rw c.get-second.ensures (c.self.invariant.word c.in-Some.table c.index_of.result Leaf led c.index_of.ensures.range))

pub returns-clause-sv32 : goal.returns-clause-sv32
returns-clause-sv32 c =
    let Made : SharedValue → Type 0 = λ v. IsSharedRoot v c.args.root in
    let Walks : SharedValue → Type 0 =
    λ v. (access : Access) → reached v.words c.args.root (c.args.va / 4096) access ≡ through access (shared_leaf_at v c.args.root (c.args.va / 4096)) in
    let made = subst Made (sym c.self.view_is) c.requires in
    subst Walks c.self.view_is
    (reached-shared c.self.inside.words.items c.self.inside.uses.items c.args.root (c.args.va / 4096) c.self.invariant made (omega arith))
