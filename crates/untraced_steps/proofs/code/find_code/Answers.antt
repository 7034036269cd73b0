use Rattle.std.proofs.Common.{◌<◌, sym, subst}
use Rattle.cap_format.specs.Capability.{IsCapability}
use Rattle.cap_format.specs.declared.kind.CapKind.TheVariants.{Page}
use Rattle.object_store.specs.Store.{Store, size_of}
use Rattle.object_store.specs.Ranges.{IsRanged}
use Rattle.object_store.specs.Meaning.{map_of}
use Rattle.object_store.proofs.Ranged.{IsRanged-map_of}
use Rattle.object_store.proofs.Live.{IsCapability-meaning}
use Rattle.machine_state.specs.State.{state_of, space_of}
use Rattle.untraced_steps.proofs.KeptSteps.{code_found}
use Rattle.untraced_steps.proofs.code.find_code.Goals as goal

pub returns-clause-code : goal.returns-clause-code
returns-clause-code g c =
    let t = g.T.Translator in
    let laws = g.met.T.PageTranslator in
    let objects : Store = c.args.machine.now.objects in
    let ranged : IsRanged objects.items = subst (λ (o : Store). IsRanged o.items) c.objects.ensures c.in_ranges.ensures.ranged in
    let is : IsCapability (space_of (state_of c.args.machine.now) c.args.p) = subst IsCapability c.space.ensures (IsCapability-meaning objects.items c.space.result c.kind-space.ensures.range) in
    let there : c.in_ok-hit.hit.page < size_of objects.items Page = subst (λ (o : Store). c.in_ok-hit.hit.page < size_of o.items Page) c.in_ok-hit.ensures.objects c.in_ok-hit.ensures.page in
    code_found t.cost t.after t.spared t.finds laws.paged laws.frees c.page_law.ensures (t.kept c.args.machine.now.translator) (map_of objects.items) (space_of (state_of c.args.machine.now) c.args.p) c.pc-pc.result c.in_ok-hit.hit
    (IsRanged-map_of objects.items ranged) is (sym c.in_ok-hit.ensures.exactly) c.in_ok-hit.ensures.answer there
