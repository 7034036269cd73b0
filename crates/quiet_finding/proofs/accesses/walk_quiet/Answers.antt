use Rattle.std.proofs.Common.{◌≡◌, ◌<◌, Bool, if◌then◌else◌, Ok, length, sym, ◌∙◌, ap, subst, arith}
use Rattle.cap_format.specs.declared.kind.CapKind.{CapKind}
use Rattle.cap_format.specs.declared.kind.CapKind.TheVariants.{Page, CapPage}
use Rattle.cap_format.specs.Capability.{Capability, IsCapability}
use Rattle.object_store.specs.Store.{Store, size_of}
use Rattle.object_store.specs.Meaning.{map_of, meaning}
use Rattle.object_store.specs.Ranges.{IsRanged}
use Rattle.object_store.proofs.Ranged.{IsRanged-map_of}
use Rattle.object_store.proofs.Live.{IsCapability-meaning}
use Rattle.walk_meaning.specs.Walk.{access}
use Rattle.walk_meaning.specs.Trail.{trail}
use Rattle.machine_state.specs.State.{state_of, space_of}
use Rattle.quiet_finding.proofs.Accessing.{by-way}
use Rattle.quiet_finding.proofs.Walking.{walked-quietly}
use Rattle.quiet_finding.proofs.accesses.walk_quiet.Goals as goal

pub returns-in-Ok-clause-kept : goal.returns-in-Ok-clause-kept
returns-in-Ok-clause-kept g c =
    let objects : Store = c.args.machine.now.objects in
    let s = state_of c.args.machine.now in
    let space = c.space-space.result in
    let place = c.in-Ok.place in
    let reads = c.walk.new.trail.items in
    let ranged : IsRanged objects.items = subst (λ (o : Store). IsRanged o.items) c.objects.ensures c.in_ranges.ensures.ranged in
    let is : IsCapability (space_of s c.args.p) = subst IsCapability c.space-space.ensures (IsCapability-meaning objects.items space c.kind-kind.ensures.range) in
    let stored : access (map_of objects.items) (meaning objects.items space) c.args.at c.args.kind ≡ Ok place =
    subst (λ (o : Store). access (map_of o.items) (meaning o.items space) c.args.at c.args.kind ≡ Ok place) c.objects-2.ensures (sym c.in-Ok.ensures.value) in
    let reached : access s.store.items (space_of s c.args.p) c.args.at c.args.kind ≡ Ok place =
    subst (λ (d : Capability). access (map_of objects.items) d c.args.at c.args.kind ≡ Ok place) c.space-space.ensures stored in
    let noted : reads ≡ trail (map_of objects.items) (meaning objects.items space) c.args.at c.args.kind =
    subst (λ (o : Store). reads ≡ trail (map_of o.items) (meaning o.items space) c.args.at c.args.kind) c.objects-2.ensures c.in-Ok.ensures.noted in
    let way : reads ≡ trail s.store.items (space_of s c.args.p) c.args.at c.args.kind =
    subst (λ (d : Capability). reads ≡ trail (map_of objects.items) d c.args.at c.args.kind) c.space-space.ensures noted in
    let kind : place.kind ≡ Page = c.in-Ok.ensures.place.kind_is ∙ ap (λ (b : Bool). if b then Page else CapPage) c.requires.data in
    let below : place.number < size_of objects.items Page =
    subst (λ (k : CapKind). place.number < size_of objects.items k) kind
    (subst (λ (o : Store). place.number < size_of o.items place.kind) c.objects-2.ensures c.in-Ok.ensures.place.there) in
    let sized : length objects.contents.pages ≡ size_of objects.items Page =
    subst (λ (o : Store). length o.contents.pages ≡ size_of o.items Page) c.objects.ensures c.in_ranges.ensures.sized.pages in
    let there : place.number < length objects.contents.pages = omega (arith, below, sized) in
    walked-quietly c.page_law.ensures s c.args.p c.args.at c.args.kind place (IsRanged-map_of objects.items ranged) is reached there
    (sym (by-way s c.args.p c.args.at c.args.kind reads way place.number) ∙ (sym c.may_reach.ensures ∙ c.if-may_reach.true))
