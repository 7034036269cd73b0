use Rattle.std.proofs.Common.{◌/◌, ◌<◌, ◌^◌, List, sym, ap, ◌∙◌, subst, arith}
use Rattle.tlb_model.specs.declared.entry.Entry.{Entry}
use Rattle.shared_leaves.specs.Key.{root_key}
use Rattle.shared_leaves.specs.Cache.{IsCache, frame_of}
use Rattle.shared_leaves.proofs.Invariant.{cache-fill, root_made}
use Rattle.shared_leaves.proofs.leaves.LeafTables.find.Goals as goal
use Rattle.depend_table.proofs.Coded.{frame_of-some}
use Rattle.shared_leaves.proofs.Codes.{key_coding}

pub hw_walk-requires : goal.hw_walk-requires
hw_walk-requires c =
    let old = c.args.self.now in
    root_made old.tables old.keys.items old.tlbs.items old.records c.requires.kept c.in_ok-root.root c.args.space (frame_of-some key_coding old.keys.items (root_key c.args.space) c.in_ok-root.root (ap (frame_of old.keys.items) (sym c.root.ensures) ∙ (sym c.frame_of.ensures ∙ c.in_ok-root.was)))

pub returns-clause-kept : goal.returns-clause-kept
returns-clause-kept c =
    let old = c.args.self.now in
    let made = root_made old.tables old.keys.items old.tlbs.items old.records c.requires.kept c.in_ok-root.root c.args.space (frame_of-some key_coding old.keys.items (root_key c.args.space) c.in_ok-root.root (ap (frame_of old.keys.items) (sym c.root.ensures) ∙ (sym c.frame_of.ensures ∙ c.in_ok-root.was))) in
    let low : c.args.va / 4096 < 2 ^ 20 = omega (arith, c.ranges.va.fits) in
    let there = sym c.hw_walk.ensures.leaf ∙ sym c.ok.ensures.value ∙ c.in_ok-leaf.was in
    let kept = subst (λ (ts : List (List Entry)). IsCache old.tables old.keys.items ts old.records) (sym c.seek.ensures.same) c.requires.kept in
    cache-fill old.tables old.keys.items c.seek.new.tlbs.items old.records kept c.fill_law.ensures c.hold.new.tlbs.items c.args.hart c.in_ok-root.root (c.args.va / 4096) c.in_ok-leaf.leaf (record { made = made; inside = low; there = there }) c.hold.ensures.was c.hold.ensures.hart c.hold.ensures.others
