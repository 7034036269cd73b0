use Rattle.std.proofs.Common.{◌/◌, ◌%◌, ◌<◌, ◌^◌, sym, ap, ◌∙◌, subst, arith}
use Rattle.object_store.specs.Meaning.{map_of, meaning}
use Rattle.walk_meaning.specs.Walk.{access}
use Rattle.walk_meaning.specs.Trail.{trail}
use Rattle.sv32_tables.specs.declared.leaf.Leaf.{Leaf}
use Rattle.map_cache.specs.Cache.{tlb_at}
use Rattle.shared_leaves.specs.Effects.{Agrees, IsWalked, addition_for, value_of}
use Rattle.shared_leaves.proofs.Served.{Found, found}
use Rattle.shared_leaves.proofs.leaves.LeafTables.walk_anew.Given as given
use Rattle.shared_leaves.proofs.leaves.LeafTables.walk_anew.Goals as goal

-- what the walk found
walked : (g : given.Over) (c : goal.After-as_slice g) → Found c.args.objects.now.items c.args.space c.args.address c.args.kind (value_of c.args.self.now) c.in_ok-walked.walked.place c.in_ok-walked.walked.produced c.as_slice.result.now
walked g c =
    let low : c.args.address < 2 ^ 32 = omega (arith, c.ranges.address.fits) in
    found c.page_law.ensures c.kind_law.ensures c.region_law.ensures c.args.objects.now.items c.in_ranges.ensures.ranged c.args.space c.kind-range.ensures.range c.args.address low c.args.kind c.requires.data (value_of c.args.self.now) c.requires.kept c.requires.coherent c.reads_law.ensures c.join_law.ensures c.requires.none
    c.in_ok-walked.walked.place c.in_ok-walked.walked.produced c.as_slice.result.now (sym {b = access (map_of c.args.objects.now.items) (meaning c.args.objects.now.items c.args.space) c.args.address c.args.kind} c.in_ok-walked.ensures.value) c.in_ok-walked.ensures.produced (◌∙◌ {c = trail (map_of c.args.objects.now.items) (meaning c.args.objects.now.items c.args.space) c.args.address c.args.kind} c.as_slice.ensures.value c.in_ok-walked.ensures.noted)

pub remember_walk-requires-clause-agrees : goal.remember_walk-requires-clause-agrees
remember_walk-requires-clause-agrees g c =
    subst (λ (l : Leaf). Agrees (value_of c.args.self.now) (addition_for c.args.space (c.args.address / 4096) c.in_ok-walked.walked.produced c.as_slice.result.now).key (c.args.address / 4096 % 1024) l) (sym c.reached_leaf-leaf.ensures) (walked g c).agrees

pub remember_walk-requires-clause-items : goal.remember_walk-requires-clause-items
remember_walk-requires-clause-items g c = (walked g c).items_are

pub remember_walk-requires-clause-within : goal.remember_walk-requires-clause-within
remember_walk-requires-clause-within g c = (walked g c).within

pub remember_walk-requires-clause-background : goal.remember_walk-requires-clause-background
remember_walk-requires-clause-background g c = (walked g c).background

-- the same once it was added
added : (g : given.Over) (c : goal.After-remember_walk g) → Found c.args.objects.now.items c.args.space c.args.address c.args.kind (value_of c.args.self.now) c.in_ok-walked.walked.place c.in_ok-walked.walked.produced c.as_slice.result.now
added g c =
    let low : c.args.address < 2 ^ 32 = omega (arith, c.ranges.address.fits) in
    found c.page_law.ensures c.kind_law.ensures c.region_law.ensures c.args.objects.now.items c.in_ranges.ensures.ranged c.args.space c.kind-range.ensures.range c.args.address low c.args.kind c.requires.data (value_of c.args.self.now) c.requires.kept c.requires.coherent c.reads_law.ensures c.join_law.ensures c.requires.none
    c.in_ok-walked.walked.place c.in_ok-walked.walked.produced c.as_slice.result.now (sym {b = access (map_of c.args.objects.now.items) (meaning c.args.objects.now.items c.args.space) c.args.address c.args.kind} c.in_ok-walked.ensures.value) c.in_ok-walked.ensures.produced (◌∙◌ {c = trail (map_of c.args.objects.now.items) (meaning c.args.objects.now.items c.args.space) c.args.address c.args.kind} c.as_slice.ensures.value c.in_ok-walked.ensures.noted)

pub returns-clause-coherent : goal.returns-clause-coherent
returns-clause-coherent g c =
    c.remember_walk.ensures.done.coherent (map_of c.args.objects.now.items)
    (subst (λ (l : Leaf). IsWalked (map_of c.args.objects.now.items) c.args.space (c.args.address / 4096) l (addition_for c.args.space (c.args.address / 4096) c.in_ok-walked.walked.produced c.as_slice.result.now)) (sym c.reached_leaf-leaf.ensures) (added g c).walked)
    c.requires.coherent

pub returns-clause-held : goal.returns-clause-held
returns-clause-held g c = (c.reached_leaf-leaf.result, c.remember_walk.ensures.done.held, ap (λ (l : Leaf). l.page) c.reached_leaf-leaf.ensures)

pub returns-clause-counted : goal.returns-clause-counted
returns-clause-counted g c = omega (arith, c.walk.ensures.counted, (added g c).added.cost)

pub returns-clause-after : goal.returns-clause-after
returns-clause-after g c = c.remember_walk.ensures.done.kept ∙ sym (added g c).added.after

pub returns-clause-others : goal.returns-clause-others
returns-clause-others g c = λ k differs. c.remember_walk.ensures.done.others k differs ∙ sym ((added g c).added.tlb (tlb_at c.args.self.now.tlbs.items k))
