use Rattle.std.proofs.Common.{sym, subst}
use Rattle.map_cache.specs.Cache.{CacheValue}
use Rattle.map_cache.specs.Coherent.{IsCoherent}
use Rattle.map_cache.proofs.map_cache.MapCacheTranslator.invalidate.Goals as goal

pub returns-clause-coherent : goal.returns-clause-coherent
returns-clause-coherent c = λ o p differ coherent.
    c.forget_item.ensures.coherent o p differ (subst (λ (v : CacheValue). IsCoherent v o) (sym c.self.view_is) coherent)
