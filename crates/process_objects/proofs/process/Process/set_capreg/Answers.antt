use Rattle.std.proofs.Common.{arith}
use Rattle.process_objects.proofs.Ranges.{IsProcess-capreg}
use Rattle.process_objects.proofs.process.Process.set_capreg.Goals as goal

pub invariant_of-self : goal.invariant_of-self
invariant_of-self c = IsProcess-capreg _ c.args.i c.args.cap (omega arith) c.kind-kind.ensures.range c.self.invariant

pub returns-then-index-ne0-clause-range : goal.returns-then-index-ne0-clause-range
returns-then-index-ne0-clause-range c = IsProcess-capreg _ c.args.i c.args.cap (omega arith) c.kind-kind.ensures.range c.self.invariant
