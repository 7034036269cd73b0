use Rattle.std.proofs.Common.{◌∙◌, sym, ap}
use Rattle.object_store.specs.Meaning.{meaning}
use Rattle.object_store.proofs.Means.{slot_at-map_of}
use Rattle.walk_engine.proofs.on_way.read_next.Goals as goal

pub returns-clause-value : goal.returns-clause-value
returns-clause-value g c =
    let o = c.args.objects.now.items in
    λ some. c.live.ensures.means ∙ (ap (meaning o) c.gpt_slot.ensures.value ∙ sym (slot_at-map_of o c.args.gpt c.args.slot))
