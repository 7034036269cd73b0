use Rattle.std.proofs.Common.{◌/◌, ◌<◌, ◌^◌, List, sym, ap, ◌∙◌, subst, arith, if◌then◌else◌, []}
use Rattle.object_store.specs.Meaning.{map_of, meaning}
use Rattle.sv32_tables.specs.declared.leaf.Leaf.{Leaf}
use Rattle.walk_meaning.specs.declared.noted.Noted.{Noted}
use Rattle.map_cache.specs.Kept.{added, added_to, fits}
use Rattle.map_cache.specs.Cache.{kept_of, tlb_at}
use Rattle.map_cache.specs.Effects.{IsWalked, Remembers, value_of}
use Rattle.map_cache.proofs.Accesses.{IsAdded}
use Rattle.map_cache.proofs.Translated.{reached-new, reached-walked, unserved, walk-items}
use Rattle.map_cache.proofs.mappings.Mappings.walk_anew.Given as given
use Rattle.map_cache.proofs.mappings.Mappings.walk_anew.Goals as goal

pub remember-requires-clause-bare : goal.remember-requires-clause-bare
remember-requires-clause-bare g c =
    let low : c.args.address < 2 ^ 32 = omega (arith, c.ranges.address.fits) in
    unserved c.page_law.ensures c.kind_law.ensures c.args.objects.now.items c.in_ranges.ensures.ranged c.args.space c.kind-range.ensures.range c.args.address low c.args.kind c.requires.data (value_of c.args.self.now) c.requires.kept c.requires.coherent c.requires.none c.in_ok-place.place (sym c.in_ok-place.ensures.value)

pub remember-requires-clause-items : goal.remember-requires-clause-items
remember-requires-clause-items g c =
    let low : c.args.address < 2 ^ 32 = omega (arith, c.ranges.address.fits) in
    walk-items c.reads_law.ensures c.args.objects.now.items c.in_ranges.ensures.ranged c.args.space c.kind-range.ensures.range c.args.address low c.args.kind c.as_slice.result.now (c.as_slice.ensures.value ∙ c.in_ok-place.ensures.noted)

-- what is left when the place was remembered
remembered : (g : given.Over) (c : goal.After-remember g) → Remembers (value_of c.args.self.now) (value_of c.remember.new.self) c.args.hart c.args.space (c.args.address / 4096) c.reached_leaf.result c.as_slice.result.now
remembered g c = c.remember.ensures.done

-- and what the access came to
added_new : (g : given.Over) (c : goal.After-remember g) → IsAdded (kept_of (value_of c.args.self.now)) (map_of c.args.objects.now.items) (meaning c.args.objects.now.items c.args.space) c.args.space c.args.address c.args.kind
added_new g c =
    let low : c.args.address < 2 ^ 32 = omega (arith, c.ranges.address.fits) in
    let reached = sym c.in_ok-place.ensures.value in
    let bare = unserved c.page_law.ensures c.kind_law.ensures c.args.objects.now.items c.in_ranges.ensures.ranged c.args.space c.kind-range.ensures.range c.args.address low c.args.kind c.requires.data (value_of c.args.self.now) c.requires.kept c.requires.coherent c.requires.none c.in_ok-place.place reached in
    reached-new c.page_law.ensures c.kind_law.ensures c.args.objects.now.items c.in_ranges.ensures.ranged c.args.space c.kind-range.ensures.range c.args.address low c.args.kind c.requires.data (value_of c.args.self.now) c.requires.kept c.requires.coherent c.in_ok-place.place reached bare

pub returns-clause-coherent : goal.returns-clause-coherent
returns-clause-coherent g c =
    let low : c.args.address < 2 ^ 32 = omega (arith, c.ranges.address.fits) in
    let walked = reached-walked c.page_law.ensures c.kind_law.ensures c.args.objects.now.items c.in_ranges.ensures.ranged c.args.space c.kind-range.ensures.range c.args.address low c.args.kind c.requires.data (value_of c.args.self.now) c.requires.kept c.requires.coherent c.reads_law.ensures c.in_ok-place.place c.as_slice.result.now (sym c.in_ok-place.ensures.value) (c.as_slice.ensures.value ∙ c.in_ok-place.ensures.noted) in
    (remembered g c).coherent (map_of c.args.objects.now.items) (subst (λ (l : Leaf). IsWalked (map_of c.args.objects.now.items) c.args.space (c.args.address / 4096) l c.as_slice.result.now) (sym c.reached_leaf.ensures) walked) c.requires.coherent

pub returns-clause-counted : goal.returns-clause-counted
returns-clause-counted g c = omega (arith, c.walk.ensures.counted, (added_new g c).cost)

pub returns-clause-after : goal.returns-clause-after
returns-clause-after g c =
    (remembered g c).kept
    ∙ ap (λ (ns : List Noted). added_to (kept_of (value_of c.args.self.now)) c.args.space (c.args.address / 4096) ns) (c.as_slice.ensures.value ∙ c.in_ok-place.ensures.noted)
    ∙ sym (added_new g c).after

pub returns-clause-others : goal.returns-clause-others
returns-clause-others g c = λ k differs.
    (remembered g c).others k differs
    ∙ ap (λ (ns : List Noted). if fits (added (kept_of (value_of c.args.self.now)) c.args.space (c.args.address / 4096) ns) then tlb_at c.args.self.now.tlbs.items k else []) (c.as_slice.ensures.value ∙ c.in_ok-place.ensures.noted)
    ∙ sym ((added_new g c).tlb (tlb_at c.args.self.now.tlbs.items k))
