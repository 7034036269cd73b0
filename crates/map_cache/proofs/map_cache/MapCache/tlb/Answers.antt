use Rattle.std.proofs.Common.{◌≡◌, ◌<◌, List, [], length, refl, ap, ◌∙◌, subst, arith}
use Rattle.std.proofs.lemmas.Option.{get_or_from_slice_get, slice_get_read}
use Rattle.tlb_model.specs.declared.entry.Entry.{Entry}
use Rattle.tlb_model.specs.Tlb.{look}
use Rattle.map_cache.specs.Cache.{CacheValue, IsBacked, tlb_at}
use Rattle.map_cache.proofs.map_cache.MapCache.tlb.Goals as goal

pub returns-clause-backed : goal.returns-clause-backed
returns-clause-backed c = λ root page leaf found.
    let in' = c.self.inside.mappings in
    let within : c.args.hart < length in'.tlbs.items = omega (arith, c.requires, ap (λ (v : CacheValue). length v.tlbs) c.self.view_is) in
    let at = slice_get_read in'.tlbs.items (length in'.tlbs.items) c.args.hart c.index.result.now refl within c.index.ensures in
    let here : tlb_at in'.tlbs.items c.args.hart ≡ c.index.result.now = get_or_from_slice_get in'.tlbs.items c.args.hart c.index.result.now [] at in
    let P : CacheValue → Type 0 = λ v. IsBacked v.tables root page leaf in
    subst P c.self.view_is (c.self.invariant.backed c.args.hart root page leaf (ap (λ (es : List Entry). look es root page) here ∙ found))
