use Rattle.std.proofs.Common.{subst}
use Rattle.std.specs.Prelude.{IfSome}
use Rattle.sv32_tables.specs.Pool.{IsRoot}
use Rattle.map_cache.specs.Cache.{CacheValue}
use Rattle.map_cache.proofs.Invariant.{found_made}
use Rattle.map_cache.proofs.map_cache.MapCache.root_of.Goals as goal

pub returns-clause-made : goal.returns-clause-made
returns-clause-made c =
    let in' = c.self.inside.mappings in
    let P : CacheValue → Type 0 = λ v. IfSome c.root_of.result (λ root. IsRoot v.tables root) in
    subst P c.self.view_is (found_made in'.tables in'.keys.items in'.tlbs.items in'.records c.self.invariant c.args.space c.root_of.result c.root_of.ensures)
