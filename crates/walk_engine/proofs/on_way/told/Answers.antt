use Rattle.std.proofs.Common.{ℕ, Option, Some, ◌∙◌, sym, ap}
use Rattle.cap_format.specs.Capability.{Capability}
use Rattle.object_store.specs.Meaning.{meaning, map_of}
use Rattle.object_store.proofs.Means.{slot_at-map_of}
use Rattle.walk_meaning.specs.declared.place.WalkFault.{WalkFault}
use Rattle.walk_meaning.specs.Walk.{fault}
use Rattle.walk_engine.proofs.on_way.told.Goals as goal

pub returns-clause-value : goal.returns-clause-value
returns-clause-value g c =
    let o = c.args.objects.now.items in
    let told : Capability → WalkFault = λ d. record { code = c.args.code; handler = Some d } in
    ap told (c.live-handler.ensures.means ∙ (ap (meaning o) c.gpt_slot.ensures.value ∙ sym (slot_at-map_of o c.in-Some.gpt 15)))
    ∙ ap (λ (h : Option ℕ). fault (map_of o) c.args.code h) (sym c.in-Some.is)
