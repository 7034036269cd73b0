use Rattle.object_parts.proofs.Compared.{caps_answer}
use Rattle.object_parts.proofs.compare.same_cap_pages.Goals as goal

pub returns : goal.returns
returns c = caps_answer c.all_slots_same.result c.args.a.now c.args.b.now c.all_slots_same.ensures
