use Rattle.std.proofs.Common.{◌<◌, ◌∷◌, [], ap, arith, ◌≤◌, ◌≡◌}
use Rattle.cap_format.specs.declared.kind.CapKind.TheVariants.{Page}
use Rattle.object_store.specs.declared.sizes.Sizes.{Sizes}
use Rattle.object_store.specs.Store.{size_of}
use Rattle.object_store.specs.Object.{object_name}
use Rattle.machine_state.specs.Taking.{names_of}
use Rattle.state_parts.proofs.Marked.{adds_none, adds_one, has_named, has_absent}
use Rattle.state_parts.proofs.performing.mark_page.Goals as goal

pub returns-then-page-pages-clause-adds : goal.returns-then-page-pages-clause-adds
returns-then-page-pages-clause-adds c = adds_none c.args.objects.now (names_of c.args.marked.now.items)

pub returns-then-page-pages-clause-has : goal.returns-then-page-pages-clause-has
returns-then-page-pages-clause-has c =
    let many : c.sizes-pages.result.pages ≡ size_of c.args.objects.now.items Page = ap (λ (z : Sizes). z.pages) c.sizes-pages.ensures.value in
    let past : c.sizes-pages.result.pages ≤ c.args.page = c.if-page-pages.true in
    has_absent c.args.objects.now Page c.args.page (names_of c.args.marked.now.items) (λ there. omega (arith, many, past, there))

pub returns-clause-adds : goal.returns-clause-adds
returns-clause-adds c =
    let many : c.sizes-pages.result.pages ≡ size_of c.args.objects.now.items Page = ap (λ (z : Sizes). z.pages) c.sizes-pages.ensures.value in
    let below : c.args.page < c.sizes-pages.result.pages = c.if-page-pages.false in
    let there : c.args.page < size_of c.args.objects.now.items Page = omega (arith, many, below) in
    adds_one c.args.objects.now Page c.args.page (names_of c.args.marked.now.items) (names_of c.add_name.new.marked.items) there c.add_name.ensures.grows

pub returns-clause-has : goal.returns-clause-has
returns-clause-has c = has_named c.args.objects.now (object_name Page c.args.page ∷ []) (names_of c.add_name.new.marked.items) c.add_name.ensures.has
