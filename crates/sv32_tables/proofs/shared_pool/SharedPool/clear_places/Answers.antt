use Rattle.std.proofs.Common.{◌+◌, ◌*◌, sym, subst}
use Rattle.sv32_tables.specs.Shared.{IsLeafTable, SharedValue, shared_of}
use Rattle.sv32_tables.specs.SharedHistory.{ClearsPlaces}
use Rattle.sv32_tables.proofs.SharedWrites.{Wiped, cleared, shared-wiped}
use Rattle.sv32_tables.proofs.shared_pool.SharedPool.clear_places.Goals as goal

-- the words that are wiped
wiped : (c : goal.After-wipe) → Wiped c.self.inside.words.items c.wipe.new.words.items (c.args.leaf * 1024 + c.min-from.result) (c.args.leaf * 1024 + c.min-to.result)
wiped c = record { size = c.wipe.ensures.length; words = c.wipe.ensures.words }

pub invariant_of-self : goal.invariant_of-self
invariant_of-self c =
    let Made : SharedValue → Type 0 = λ v. IsLeafTable v c.args.leaf in
    let made = subst Made (sym c.self.view_is) c.requires.leaf in
    shared-wiped _ _ _ c.args.leaf c.args.first c.args.end _ _ c.self.invariant made c.min-from.ensures c.min-to.ensures (wiped c)

pub returns : goal.returns
returns c =
    let Made : SharedValue → Type 0 = λ v. IsLeafTable v c.args.leaf in
    let made = subst Made (sym c.self.view_is) c.requires.leaf in
    let Clears : SharedValue → Type 0 = λ v. ClearsPlaces v (shared_of c.wipe.new.words.items c.self.inside.uses.items) c.args.leaf c.args.first c.args.end in
    subst Clears c.self.view_is (cleared _ _ _ c.args.leaf c.args.first c.args.end _ _ c.self.invariant made c.min-from.ensures c.min-to.ensures (wiped c))
