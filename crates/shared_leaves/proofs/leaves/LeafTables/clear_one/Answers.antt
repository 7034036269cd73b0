use Rattle.std.proofs.Common.{not, sym, ◌∙◌, arith}
use Rattle.depend_table.specs.Depend.{depend, is_within}
use Rattle.shared_leaves.specs.Key.{is_leaf}
use Rattle.shared_leaves.specs.Cache.{key_at}
use Rattle.shared_leaves.specs.Effects.{Forgets, value_of}
use Rattle.shared_leaves.proofs.Dropped.{length-filter_most}
use Rattle.shared_leaves.proofs.Filed.{Made}
use Rattle.shared_leaves.proofs.Taking.{not_false, not_true_is, own, rooted}
use Rattle.shared_leaves.proofs.Unlinked.{root_taken}
use Rattle.shared_leaves.proofs.Cleared.{leaf_taken}
use Rattle.shared_leaves.proofs.Invariant.{leaf_made}
use Rattle.shared_leaves.proofs.leaves.LeafTables.clear_one.Goals as goal

pub is_root-requires : goal.is_root-requires
is_root-requires c =
    let taken = c.in-Some.ensures.taken in
    c.requires.within (depend c.args.item c.in-Some.taken.0 c.in-Some.taken.1) taken.there

pub unlink_block-requires : goal.unlink_block-requires
unlink_block-requires c =
    let old = c.args.self.now in
    let taken = c.in-Some.ensures.taken in
    rooted old.tables old.keys.items old.tlbs.items old.records c.requires (depend c.args.item c.in-Some.taken.0 c.in-Some.taken.1) taken.there (not_true_is (is_leaf (key_at old.keys.items c.in-Some.taken.0)) (sym c.is_root.ensures ∙ c.if-is_root.true))

root_done : (c : goal.After-unlink_block) → Made c.unlink_block.new.tables c.args.self.now.keys.items c.drop_all.new.tlbs.items c.take_one.new.self (λ v. Forgets (value_of c.args.self.now) v c.args.item)
root_done c =
    let old = c.args.self.now in
    let taken = c.in-Some.ensures.taken in
    root_taken old.tables old.keys.items old.tlbs.items old.records c.requires (depend c.args.item c.in-Some.taken.0 c.in-Some.taken.1) taken.there c.unlink_block.new.tables c.drop_all.new.tlbs.items c.take_one.new.self taken
    (not_true_is (is_leaf (key_at old.keys.items c.in-Some.taken.0)) (sym c.is_root.ensures ∙ c.if-is_root.true)) c.unlink_block.ensures.links c.unlink_block.ensures.entries c.unlink_block.ensures.uses c.drop_all.ensures.tlbs c.drop_all.ensures.harts

pub returns-then-is_root-clause-kept : goal.returns-then-is_root-clause-kept
returns-then-is_root-clause-kept c = (root_done c).cache

pub returns-then-is_root-clause-forgets : goal.returns-then-is_root-clause-forgets
returns-then-is_root-clause-forgets c = (root_done c).done

pub clear-requires : goal.clear-requires
clear-requires c =
    let old = c.args.self.now in
    let taken = c.in-Some.ensures.taken in
    leaf_made old.tables old.keys.items old.tlbs.items old.records c.requires c.in-Some.taken.0 (key_at old.keys.items c.in-Some.taken.0)
    (own old.tables old.keys.items old.tlbs.items old.records c.requires (depend c.args.item c.in-Some.taken.0 c.in-Some.taken.1) taken.there)
    (not_false (is_leaf (key_at old.keys.items c.in-Some.taken.0)) (sym c.is_root.ensures ∙ c.if-is_root.false))

leaf_done : (c : goal.After-drop_within) → Made c.clear.new.self c.args.self.now.keys.items c.drop_all.new.tlbs.items c.drop_within.new.self (λ v. Forgets (value_of c.args.self.now) v c.args.item)
leaf_done c =
    let old = c.args.self.now in
    let taken = c.in-Some.ensures.taken in
    leaf_taken old.tables old.keys.items old.tlbs.items old.records c.requires (depend c.args.item c.in-Some.taken.0 c.in-Some.taken.1) taken.there c.clear.new.self c.drop_all.new.tlbs.items c.take_one.new.self c.drop_within.new.self taken
    (not_false (is_leaf (key_at old.keys.items c.in-Some.taken.0)) (sym c.is_root.ensures ∙ c.if-is_root.false)) c.clear.ensures c.drop_within.ensures c.drop_all.ensures.tlbs c.drop_all.ensures.harts

pub returns-clause-kept : goal.returns-clause-kept
returns-clause-kept c = (leaf_done c).cache

pub returns-clause-forgets : goal.returns-clause-forgets
returns-clause-forgets c = (leaf_done c).done

pub returns-clause-shorter : goal.returns-clause-shorter
returns-clause-shorter c = λ _.
    let taken = c.in-Some.ensures.taken in
    let fewer = taken.count in
    let most = length-filter_most (λ d. not (is_within c.in-Some.taken.0 c.in-Some.taken.1 d)) c.take_one.new.self in
    rw c.drop_within.ensures (omega (arith, fewer, most))
