use Rattle.std.proofs.Common.{◌/◌, ℕ, Some, refl, sym, ap, ◌∙◌, arith}
use Rattle.shared_leaves.specs.Cache.{key_at}
use Rattle.shared_leaves.specs.Effects.{Connects, value_of}
use Rattle.shared_leaves.proofs.Filed.{Made}
use Rattle.shared_leaves.proofs.Connected.{connected, connected-first, connected-there}
use Rattle.shared_leaves.proofs.leaves.LeafTables.connect.Goals as goal

-- the first link of a region
first : (c : goal.After-link) → Made c.link.new.self c.args.self.now.keys.items c.args.self.now.tlbs.items c.args.self.now.records (λ v. Connects (value_of c.args.self.now) v (key_at c.args.self.now.keys.items c.args.root).space c.args.root (c.args.va / 4096 / 1024) (key_at c.args.self.now.keys.items c.args.table) c.args.table)
first c =
    let old = c.args.self.now in
    connected-first old.tables old.keys.items old.tlbs.items old.records c.requires.kept c.link.new.self old.tlbs.items c.args.root (c.args.va / 4096 / 1024) c.args.table c.requires.root c.requires.leaf (omega arith) c.link.ensures refl (sym c.in_default.ensures)

pub returns-in_default-clause-done : goal.returns-in_default-clause-done
returns-in_default-clause-done c = (first c).done

pub returns-in_default-clause-kept : goal.returns-in_default-clause-kept
returns-in_default-clause-kept c = (first c).cache

pub returns-then-linked-table-clause-done : goal.returns-then-linked-table-clause-done
returns-then-linked-table-clause-done c =
    let old = c.args.self.now in
    connected-there old.tables old.keys.items old.tlbs.items old.records c.requires.kept c.args.root (c.args.va / 4096 / 1024) c.args.table c.requires.root (omega arith)
    (sym c.link_of.ensures ∙ (c.in-Some.is ∙ ap (λ (n : ℕ). Some n) c.if-linked-table.true))

-- a link in the place of another
linked : (c : goal.After-link-2) → Made c.link-2.new.self c.args.self.now.keys.items c.drop_all.new.tlbs.items c.args.self.now.records (λ v. Connects (value_of c.args.self.now) v (key_at c.args.self.now.keys.items c.args.root).space c.args.root (c.args.va / 4096 / 1024) (key_at c.args.self.now.keys.items c.args.table) c.args.table)
linked c =
    let old = c.args.self.now in
    connected old.tables old.keys.items old.tlbs.items old.records c.requires.kept c.link-2.new.self c.drop_all.new.tlbs.items c.args.root (c.args.va / 4096 / 1024) c.args.table c.requires.root c.requires.leaf (omega arith) c.link-2.ensures
    c.drop_all.ensures.tlbs c.drop_all.ensures.harts c.in-Some.linked (sym c.link_of.ensures ∙ c.in-Some.is) c.if-linked-table.false

pub returns-clause-done : goal.returns-clause-done
returns-clause-done c = (linked c).done

pub returns-clause-kept : goal.returns-clause-kept
returns-clause-kept c = (linked c).cache
