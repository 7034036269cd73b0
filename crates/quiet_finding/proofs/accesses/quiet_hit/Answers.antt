use Rattle.std.proofs.Common.{◌≡◌, Option, IfSome, length, subst, arith}
use Rattle.cap_format.specs.declared.kind.CapKind.TheVariants.{Page}
use Rattle.object_store.specs.Store.{Store, size_of}
use Rattle.machine_state.specs.State.{state_of}
use Rattle.quiet_finding.specs.declared.walks.QuietPage.{QuietPage}
use Rattle.quiet_finding.specs.Walks.{LeadsQuietly}
use Rattle.quiet_finding.proofs.accesses.quiet_hit.Goals as goal

pub returns-in-Some-clause-page : goal.returns-in-Some-clause-page
returns-in-Some-clause-page g c =
    let objects : Store = c.args.machine.now.objects in
    let s = state_of c.args.machine.now in
    let kept : LeadsQuietly s c.args.p c.args.kind c.in-Some.quiet =
    subst (λ (o : Option QuietPage). IfSome o (LeadsQuietly s c.args.p c.args.kind)) c.in-Some.is c.requires.kept in
    let sized : length objects.contents.pages ≡ size_of objects.items Page =
    subst (λ (o : Store). length o.contents.pages ≡ size_of o.items Page) c.objects.ensures c.in_ranges.ensures.sized.pages in
    let there = kept.there in
    omega (arith, there, sized)
