use Rattle.std.proofs.Common.{◌+◌, ◌∷◌, Some, refl, sym, ap, ◌∙◌}
use Rattle.map_cache.specs.Key.{key}
use Rattle.map_cache.specs.declared.mapping.Mapping.{Mapping}
use Rattle.map_cache.specs.Mappings.{mappings_left, place_at}
use Rattle.map_cache.specs.Effects.{value_of}
use Rattle.map_cache.proofs.Invariant.{root_made}
use Rattle.map_cache.proofs.Listed.{key-here, left-next, left-none, no_region}
use Rattle.map_cache.proofs.mappings.Mappings.next_under.Goals as goal

pub next_leaf-requires-clause-made : goal.next_leaf-requires-clause-made
next_leaf-requires-clause-made c =
    let old = c.args.self.now in
    let none = no_region c.index-deref-frame.result.region (sym c.is_some.ensures ∙ c.if-is_some.false) in
    root_made old.tables old.keys.items old.tlbs.items old.records c.requires.kept c.args.frame c.index-deref-frame.result.space ((key-here c.args.self.now.keys.items c.deref.result.now c.args.frame c.index-deref-frame.result c.deref.ensures.0 c.requires.frame c.index-deref-frame.is) ∙ (λ i. Some (key c.index-deref-frame.result.space (none i))))

pub returns-in_err-found-clause-none : goal.returns-in_err-found-clause-none
returns-in_err-found-clause-none c = λ _.
    let none = no_region c.index-deref-frame.result.region (sym c.is_some.ensures ∙ c.if-is_some.false) in
    left-none (value_of c.args.self.now) c.args.frame c.args.page c.index-deref-frame.result (key-here c.args.self.now.keys.items c.deref.result.now c.args.frame c.index-deref-frame.result c.deref.ensures.0 c.requires.frame c.index-deref-frame.is) none (c.in_err-found.ensures.none refl)

pub returns-clause-some : goal.returns-clause-some
returns-clause-some c =
    let none = no_region c.index-deref-frame.result.region (sym c.is_some.ensures ∙ c.if-is_some.false) in
    left-next (value_of c.args.self.now) c.args.frame c.args.page c.index-deref-frame.result (key-here c.args.self.now.keys.items c.deref.result.now c.args.frame c.index-deref-frame.result c.deref.ensures.0 c.requires.frame c.index-deref-frame.is) c.in_ok-found.found.0 c.in_ok-found.found.1 none c.in_ok-found.ensures.some
    ∙ ap (λ (m : Mapping). m ∷ mappings_left (value_of c.args.self.now) (place_at c.args.frame (c.in_ok-found.found.0 + 1))) (sym c.page_entry.ensures)
