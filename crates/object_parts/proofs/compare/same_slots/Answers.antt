use Rattle.object_parts.proofs.Compared.{caps_answer}
use Rattle.object_parts.proofs.compare.same_slots.Goals as goal

pub returns : goal.returns
returns c = caps_answer c.all_process_slots_same.result c.args.a.now.slots c.args.b.now.slots c.all_process_slots_same.ensures
