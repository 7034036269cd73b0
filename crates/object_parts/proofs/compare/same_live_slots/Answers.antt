use Rattle.std.proofs.Common.{map}
use Rattle.object_store.specs.Meaning.{live}
use Rattle.object_parts.proofs.Compared.{caps_answer}
use Rattle.object_parts.proofs.compare.same_live_slots.Goals as goal

pub returns : goal.returns
returns c = caps_answer c.all_live_slots_same.result (map (live c.args.objects.now.items) c.args.a.now.slots) c.args.b.now.slots c.all_live_slots_same.ensures
