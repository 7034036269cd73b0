use Rattle.std.proofs.Common.{◌<◌, ◌^◌, refl, sym, ◌∙◌, arith}
use Rattle.object_store.specs.Meaning.{map_of}
use Rattle.map_cache.specs.Cache.{tlb_at}
use Rattle.shared_leaves.specs.Effects.{value_of}
use Rattle.shared_leaves.proofs.Served.{changes-coherent, changes-kept, served, unspared}
use Rattle.shared_leaves.proofs.leaves.LeafTables.find_kept.Goals as goal

pub returns-in_default-clause-exactly : goal.returns-in_default-clause-exactly
returns-in_default-clause-exactly c =
    let low : c.args.address < 2 ^ 32 = omega (arith, c.ranges.address.fits) in
    sym (unspared c.page_law.ensures c.kind_law.ensures c.region_law.ensures c.args.objects.now.items c.in_ranges.ensures.ranged c.args.space c.kind-range.ensures.range c.args.address low c.args.kind c.requires.data (value_of c.args.self.now) c.requires.kept c.requires.coherent (c.in_default.ensures.none refl))

pub returns-in_default-clause-coherent : goal.returns-in_default-clause-coherent
returns-in_default-clause-coherent c = changes-coherent (value_of c.args.self.now) (value_of c.find_allowed.new.self) c.args.hart (map_of c.args.objects.now.items) c.find_allowed.ensures.changes c.requires.coherent

pub returns-in_default-clause-same : goal.returns-in_default-clause-same
returns-in_default-clause-same c = changes-kept (value_of c.args.self.now) (value_of c.find_allowed.new.self) c.args.hart c.find_allowed.ensures.changes

pub returns-clause-exactly : goal.returns-clause-exactly
returns-clause-exactly c =
    let low : c.args.address < 2 ^ 32 = omega (arith, c.ranges.address.fits) in
    sym (served c.page_law.ensures c.kind_law.ensures c.region_law.ensures c.args.objects.now.items c.in_ranges.ensures.ranged c.args.space c.kind-range.ensures.range c.args.address low c.args.kind c.requires.data (value_of c.args.self.now) c.requires.kept c.requires.coherent c.place_law.ensures c.in-Some.leaf c.in-Some.ensures.leaf c.in-Some.ensures.allowed).found

pub returns-clause-answer : goal.returns-clause-answer
returns-clause-answer c =
    let low : c.args.address < 2 ^ 32 = omega (arith, c.ranges.address.fits) in
    (served c.page_law.ensures c.kind_law.ensures c.region_law.ensures c.args.objects.now.items c.in_ranges.ensures.ranged c.args.space c.kind-range.ensures.range c.args.address low c.args.kind c.requires.data (value_of c.args.self.now) c.requires.kept c.requires.coherent c.place_law.ensures c.in-Some.leaf c.in-Some.ensures.leaf c.in-Some.ensures.allowed).answer

pub returns-clause-page : goal.returns-clause-page
returns-clause-page c =
    let low : c.args.address < 2 ^ 32 = omega (arith, c.ranges.address.fits) in
    (served c.page_law.ensures c.kind_law.ensures c.region_law.ensures c.args.objects.now.items c.in_ranges.ensures.ranged c.args.space c.kind-range.ensures.range c.args.address low c.args.kind c.requires.data (value_of c.args.self.now) c.requires.kept c.requires.coherent c.place_law.ensures c.in-Some.leaf c.in-Some.ensures.leaf c.in-Some.ensures.allowed).page

pub returns-clause-coherent : goal.returns-clause-coherent
returns-clause-coherent c = changes-coherent (value_of c.args.self.now) (value_of c.find_allowed.new.self) c.args.hart (map_of c.args.objects.now.items) c.find_allowed.ensures.changes c.requires.coherent

pub returns-clause-same : goal.returns-clause-same
returns-clause-same c = changes-kept (value_of c.args.self.now) (value_of c.find_allowed.new.self) c.args.hart c.find_allowed.ensures.changes

pub returns-clause-free : goal.returns-clause-free
returns-clause-free c =
    let low : c.args.address < 2 ^ 32 = omega (arith, c.ranges.address.fits) in
    (served c.page_law.ensures c.kind_law.ensures c.region_law.ensures c.args.objects.now.items c.in_ranges.ensures.ranged c.args.space c.kind-range.ensures.range c.args.address low c.args.kind c.requires.data (value_of c.args.self.now) c.requires.kept c.requires.coherent c.place_law.ensures c.in-Some.leaf c.in-Some.ensures.leaf c.in-Some.ensures.allowed).cost

pub returns-clause-after : goal.returns-clause-after
returns-clause-after c =
    let low : c.args.address < 2 ^ 32 = omega (arith, c.ranges.address.fits) in
    let done = served c.page_law.ensures c.kind_law.ensures c.region_law.ensures c.args.objects.now.items c.in_ranges.ensures.ranged c.args.space c.kind-range.ensures.range c.args.address low c.args.kind c.requires.data (value_of c.args.self.now) c.requires.kept c.requires.coherent c.place_law.ensures c.in-Some.leaf c.in-Some.ensures.leaf c.in-Some.ensures.allowed in
    changes-kept (value_of c.args.self.now) (value_of c.find_allowed.new.self) c.args.hart c.find_allowed.ensures.changes ∙ sym done.after

pub returns-clause-others : goal.returns-clause-others
returns-clause-others c = λ k differs.
    let low : c.args.address < 2 ^ 32 = omega (arith, c.ranges.address.fits) in
    let done = served c.page_law.ensures c.kind_law.ensures c.region_law.ensures c.args.objects.now.items c.in_ranges.ensures.ranged c.args.space c.kind-range.ensures.range c.args.address low c.args.kind c.requires.data (value_of c.args.self.now) c.requires.kept c.requires.coherent c.place_law.ensures c.in-Some.leaf c.in-Some.ensures.leaf c.in-Some.ensures.allowed in
    c.find_allowed.ensures.changes.others k differs ∙ sym (done.tlb (tlb_at c.args.self.now.tlbs.items k))
