use Rattle.std.proofs.Common.{ap, subst, ◌∙◌}
use Rattle.cap_format.specs.declared.kind.CapKind.TheVariants.{Process}
use Rattle.object_store.specs.Store.{size_of}
use Rattle.object_store.specs.Meaning.{state_map}
use Rattle.quiet_finding.specs.Comers.{ComersValue}
use Rattle.quiet_finding.specs.Passing.{IsAfter, by_objects, in_objects, nothing_reached}
use Rattle.quiet_finding.proofs.Rounds.{of-holders}
use Rattle.quiet_finding.proofs.comers.Comers.of_holders.Goals as goal

pub returns-clause-value : goal.returns-clause-value
returns-clause-value g c =
    let s = c.args.objects.now in
    let m = state_map s in
    let count = size_of s.items Process in
    let none = c.in_ok-none.none in
    let empty = c.in_ok-base.ensures ∙ ap nothing_reached c.sizes-2.ensures.value in
    let first = subst (λ (r : ComersValue). IsAfter (by_objects m none Process count) (in_objects m Process count) r c.add_kind.new.self) empty c.add_kind.ensures.value in
    of-holders s c.requires none c.add_kind.new.self c.add_kind-2.new.self first c.add_kind-2.ensures.value
