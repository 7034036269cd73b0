use Rattle.object_parts.proofs.Compared.{caps_answer}
use Rattle.object_parts.proofs.compare.same_cap_registers.Goals as goal

pub returns : goal.returns
returns c = caps_answer c.all_cap_registers_same.result c.args.a.now.capregs c.args.b.now.capregs c.all_cap_registers_same.ensures
