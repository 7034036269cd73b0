use Rattle.std.proofs.Common.{◌/◌, ◌%◌, sym, ◌∙◌}
use Rattle.std.proofs.lemmas.Bool.{false≢true}
use Rattle.shared_leaves.specs.Kept.{addition}
use Rattle.shared_leaves.specs.Effects.{value_of}
use Rattle.shared_leaves.proofs.Adding.{anew-agrees, anew-fits, remembers-anew}
use Rattle.shared_leaves.proofs.Blank.{cache-blank}
use Rattle.shared_leaves.proofs.leaves.LeafTables.remember.Goals as goal

pub keep-requires-2-clause-kept : goal.keep-requires-2-clause-kept
keep-requires-2-clause-kept c =
    let b = c.forget.new.self in
    let blank = c.forget.ensures.blank in
    cache-blank b.tables b.keys.items b.tlbs.items b.records blank.tables blank.keys blank.tlbs blank.records

pub keep-requires-2-clause-agrees : goal.keep-requires-2-clause-agrees
keep-requires-2-clause-agrees c = anew-agrees (value_of c.forget.new.self) c.args.key.now (c.args.va / 4096 % 1024) c.args.leaf c.forget.ensures.blank

pub unreachable-requires : goal.unreachable-requires
unreachable-requires c =
    false≢true (sym c.in_default-keep.ensures.wanting ∙ anew-fits (value_of c.forget.new.self) c.args.space (c.args.va / 4096) (addition c.args.key.now c.args.link_reads.now c.args.entry_reads.now) c.forget.ensures.blank c.requires.few)

pub returns-clause-done : goal.returns-clause-done
returns-clause-done c =
    remembers-anew (value_of c.args.self.now) (value_of c.forget.new.self) (value_of c.keep-2.new.self) c.args.hart (c.args.va / 4096) c.args.space c.args.leaf (addition c.args.key.now c.args.link_reads.now c.args.entry_reads.now) c.in-Err.ensures.wanting c.forget.ensures.blank (c.forget.ensures.harts ∙ c.keep.ensures.harts) c.in-Ok.ensures.ok
