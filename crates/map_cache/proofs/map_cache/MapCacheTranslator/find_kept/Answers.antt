use Rattle.std.proofs.Common.{sym, subst}
use Rattle.object_store.specs.Meaning.{map_of}
use Rattle.map_cache.specs.Cache.{CacheValue}
use Rattle.map_cache.specs.Coherent.{IsCoherent}
use Rattle.map_cache.proofs.map_cache.MapCacheTranslator.find_kept.Goals as goal

pub find_kept-requires-clause-coherent : goal.find_kept-requires-clause-coherent
find_kept-requires-clause-coherent c = subst (λ (v : CacheValue). IsCoherent v (map_of c.args.objects.now.items)) (sym c.self.view_is) c.requires.coherent
