use Rattle.std.proofs.Common.{◌∙◌}
use Rattle.shared_leaves.specs.Effects.{value_of}
use Rattle.shared_leaves.proofs.Readings.{reads-next, reads-over}
use Rattle.shared_leaves.proofs.leaves.LeafTables.note_all.Goals as goal

pub returns-in_default-clause-wanting : goal.returns-in_default-clause-wanting
returns-in_default-clause-wanting c =
    reads-over (value_of c.args.self.now) (value_of c.reads.self) (value_of c.note_one.new.self) c.args.frame c.args.reads.now c.reads.read-index c.read-item.result c.reads-test.true c.read-item.is c.reads.invariant.done c.in_default.ensures.wanting

pub reads-preserved : goal.reads-preserved
reads-preserved c = record {
  kept = c.in-Ok.ensures.kept;
  done = reads-next (value_of c.args.self.now) (value_of c.reads.self) (value_of c.note_one.new.self) c.args.frame c.args.reads.now c.reads.read-index c.read-item.result c.reads-test.true c.read-item.is c.reads.invariant.done c.in-Ok.ensures.ok;
  harts = c.note_one.ensures.harts ∙ c.reads.invariant.harts;
}
